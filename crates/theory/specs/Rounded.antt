-- The semiring of the whole numbers, and the walk whose tails are divided and rounded up. Assumes nothing.
use Rattle.std.specs.Prelude.{◌≡◌, ℕ, suc, ◌+◌, ◌-◌, ◌*◌, ◌/◌, ◌^◌, ◌<◌, ◌≤◌, false, List, [], ◌∷◌, map, length, nat_le}
use Rattle.theory.specs.Semiring.{Ops}
use Rattle.theory.specs.Sums.{over, mean, tail, Below, first}
use Rattle.theory.specs.Walk.{Table, Leg, readings, sheet, rest, next, Rising}

abbrev pub nat_ops : Ops ℕ
nat_ops = record { nought = 0; unit = 1; sum = λ x y. x + y; product = λ x y. x * y; read = λ n. n; top = λ _. false }

abbrev pub nat_least : ℕ → ℕ → Type 0
nat_least x y = y ≤ x

abbrev pub total : Table → ℕ
total table = over nat_ops table (λ q. q.1)

abbrev pub totals : List Table → ℕ
totals [] = 1
totals (t ∷ ts) = total t * totals ts

-- a / d, rounded up
unfoldable pub up : ℕ → ℕ → ℕ
up a d = (a + (d - 1)) / d

-- one step on tails: for each time drawn, the old tail at the least state that gets to y
abbrev pub moved : {K : Type 0} → Ops K → ℕ → Leg → (ℕ → K) → ℕ → K
moved ops n leg R y = mean ops (readings ops leg.table) (λ t. R (first (λ x. nat_le y (leg.move x t)) n))

-- the rounded walk, by its tails
abbrev pub rounded_start : ℕ → Table → ℕ → ℕ
rounded_start scale opening y = up (scale * tail nat_ops (readings nat_ops opening) y) (total opening)

abbrev pub rounded_next : Leg → (ℕ → ℕ) → ℕ → ℕ
rounded_next leg R y = up (moved nat_ops 257 leg R y) (total leg.table)

abbrev pub rounded : List Leg → (ℕ → ℕ) → ℕ → ℕ
rounded [] R = R
rounded (l ∷ ls) R = rounded ls (rounded_next l R)

-- a leg rises, keeps the states, and its table has a weight
pub record SoundLeg (leg : Leg) : Type 0 where
  pub rises : Rising 257 leg.move
  pub stays : (x t : ℕ) → x < 257 → leg.move x t < 257
  pub weighs : 0 < total leg.table

abbrev pub Sound : List Leg → Type 0
Sound [] = Unit {0}
Sound (l ∷ ls) = SoundLeg l × Sound ls

-- the rounded tail b, for the exact tail a, after n tables of which the totals' product is P
pub record Close (scale P n a b : ℕ) : Type 0 where
  pub over_it : a * scale ≤ b * P
  pub by_little : b * P < a * scale + n * P

abbrev pub Rounded : Type 0
Rounded =
    (opening : Table) (legs : List Leg) → Below 256 opening → 0 < total opening → Sound legs → (y : ℕ)
    → (let tables : List Table = opening ∷ map (λ l. l.table) legs in
    Close (2 ^ 20) (totals tables) (length tables) (rest nat_ops 257 (sheet nat_ops 257 opening legs) y)
    (rounded legs (rounded_start (2 ^ 20) opening) y))

-- The rounded walk can be kept as a sheet of cells: where R falls to 0, the cells R x - R (x + 1) have the tails R, and
-- the sheet that a step makes of them has the tails that `moved` says. The rounded tails do fall to 0.
abbrev pub Falling : (ℕ → ℕ) → Type 0
Falling R = ((x : ℕ) → R (suc x) ≤ R x) × (R 257 ≡ 0)

pub record KeptByCells (leg : Leg) (R : ℕ → ℕ) : Type 0 where
  pub tails : (y : ℕ) → y ≤ 257 → rest nat_ops 257 (λ x. R x - R (suc x)) y ≡ R y
  pub steps : (y : ℕ) → rest nat_ops 257 (next nat_ops 257 leg (λ x. R x - R (suc x))) y ≡ moved nat_ops 257 leg R y
  pub falls : Falling (rounded_next leg R)

abbrev pub ByCells : Type 0
ByCells =
    ((scale : ℕ) (opening : Table) → Below 256 opening → 0 < total opening → Falling (rounded_start scale opening))
    × ((leg : Leg) (R : ℕ → ℕ) → SoundLeg leg → Falling R → KeptByCells leg R)
