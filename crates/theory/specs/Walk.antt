-- Tables, legs, scenarios, and the sheet that is computed leg by leg. Assumes nothing.
use Rattle.std.specs.Prelude.{◌≡◌, ℕ, ◌+◌, ◌-◌, ◌<◌, ◌≤◌, min, cond, List, [], ◌∷◌, map, nat_le}
use Rattle.std.specs.List.{flat_map}
use Rattle.theory.specs.Semiring.{Ops}
use Rattle.theory.specs.Sums.{cell, tail, Below, cells}

-- (time, weight) pairs
abbrev pub Table : Type 0
Table = List (ℕ × ℕ)

-- one step of a walk: how a state moves at a drawn time, and the table that the time is drawn from
pub record Leg : Type 0 where
  pub move : ℕ → ℕ → ℕ
  pub table : Table

abbrev pub readings : {K : Type 0} → Ops K → Table → List (ℕ × K)
readings ops table = map (λ q. (q.0, ops.read q.1)) table

-- SCENARIOS: one pair from each table, in every way
abbrev pub draws : List Table → List Table
draws [] = [] ∷ []
draws (t ∷ ts) = flat_map (λ q. map (λ d. q ∷ d) (draws ts)) t

abbrev pub weight : {K : Type 0} → Ops K → Table → K
weight ops [] = ops.unit
weight ops (q ∷ d) = ops.product (ops.read q.1) (weight ops d)

abbrev pub onward : List Leg → Table → ℕ → ℕ
onward [] d x = x
onward (l ∷ ls) [] x = x
onward (l ∷ ls) (q ∷ d) x = onward ls d (l.move x q.0)

-- the start is the first drawn time
abbrev pub outcome : List Leg → Table → ℕ
outcome legs [] = 0
outcome legs (q ∷ d) = onward legs d q.0

abbrev pub scenarios : Table → List Leg → List Table
scenarios opening legs = draws (opening ∷ map (λ l. l.table) legs)

-- SHEETS
-- every way to go on from a spread, with a pair of X
abbrev pub stepped : {K : Type 0} → Ops K → (ℕ → ℕ → ℕ) → List (ℕ × K) → List (ℕ × K) → List (ℕ × K)
stepped ops move S X = flat_map (λ p. map (λ q. (move p.0 q.0, ops.product p.1 q.1)) X) S

-- new cell y: the sum over old cells x and pairs (t, w) with move x t = y of cell x × read w
abbrev pub next : {K : Type 0} → Ops K → ℕ → Leg → (ℕ → K) → ℕ → K
next ops n leg s y = cell ops (stepped ops leg.move (cells n s) (readings ops leg.table)) y

abbrev pub run : {K : Type 0} → Ops K → ℕ → List Leg → (ℕ → K) → ℕ → K
run ops n [] s = s
run ops n (l ∷ ls) s = run ops n ls (next ops n l s)

abbrev pub sheet : {K : Type 0} → Ops K → ℕ → Table → List Leg → ℕ → K
sheet ops n opening legs = run ops n legs (λ v. cell ops (readings ops opening) v)

-- a leg keeps states below n
abbrev pub Stays : ℕ → List Leg → Type 0
Stays n [] = Unit {0}
Stays n (l ∷ ls) = ((x t : ℕ) → x < n → l.move x t < n) × Stays n ls

-- MOVES
-- a later state and a later time give no earlier state
abbrev pub Rising : ℕ → (ℕ → ℕ → ℕ) → Type 0
Rising n move = (x x' t t' : ℕ) → x ≤ x' → x' < n → t ≤ t' → move x t ≤ move x' t'

-- beyond (256) stays; else g is caught up, down to 0, before t is added
abbrev pub after : ℕ → ℕ → ℕ → ℕ
after g x t = cond (nat_le 256 x) 256 (min ((x - g) + t) 256)

-- up to r nothing is added
abbrev pub from : ℕ → ℕ → ℕ → ℕ
from r x t = cond (nat_le x r) x (min (x + t) 256)

-- WORSE
-- each tail of X's weights is at least Y's
abbrev pub Worse : {K : Type 0} → Ops K → (K → K → Type 0) → Table → Table → Type 0
Worse ops least X Y = (t : ℕ) → t < 256 → least (tail ops (readings ops X) t) (tail ops (readings ops Y) t)

-- leg by leg the same move, and a worse table
abbrev pub Harder : {K : Type 0} → Ops K → (K → K → Type 0) → List Leg → List Leg → Type 0
Harder ops least [] [] = Unit {0}
Harder ops least [] (k ∷ ks) = ⊥
Harder ops least (l ∷ ls) [] = ⊥
Harder ops least (l ∷ ls) (k ∷ ks) =
    (l.move ≡ k.move) × Rising 257 l.move × Below 256 l.table × Below 256 k.table × Worse ops least l.table k.table
    × Harder ops least ls ks

-- the weight at y and above of a sheet of n cells
abbrev pub rest : {K : Type 0} → Ops K → ℕ → (ℕ → K) → ℕ → K
rest ops n s y = tail ops (cells n s) y
