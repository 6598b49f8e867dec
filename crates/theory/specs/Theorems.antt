-- The theorems. Assumes nothing.
use Rattle.std.specs.Prelude.{◌≡◌, ℕ, ◌+◌, ◌<◌, List, nat_eq, nat_le}
use Rattle.std.specs.List.{filter}
use Rattle.theory.specs.Semiring.{Ops}
use Rattle.theory.specs.Sums.{over, Below}
use Rattle.theory.specs.Walk.{Table, Leg, scenarios, outcome, weight, sheet, run, rest, Stays, Worse, Harder, Rising, after, from}

-- Each cell holds the weights of exactly the scenarios that end there.
abbrev pub Pushforward : {K : Type 0} → Ops K → Type 0
Pushforward ops =
    (opening : Table) (legs : List Leg) → Below 256 opening → Stays 257 legs → (v : ℕ) → v < 257
    → sheet ops 257 opening legs v ≡ over ops (filter (λ d. nat_eq (outcome legs d) v) (scenarios opening legs)) (weight ops)

-- The late weight, of D + 1 and above, is that of exactly the scenarios that end after D.
abbrev pub Late : {K : Type 0} → Ops K → Type 0
Late ops =
    (opening : Table) (legs : List Leg) → Below 256 opening → Stays 257 legs → (D : ℕ)
    → rest ops 257 (sheet ops 257 opening legs) (D + 1)
    ≡ over ops (filter (λ d. nat_le (D + 1) (outcome legs d)) (scenarios opening legs)) (weight ops)

-- Worse tables, over the same moves, keep a worse sheet worse.
abbrev pub NeverBetter : {K : Type 0} → Ops K → (K → K → Type 0) → Type 0
NeverBetter {K} ops least =
    (s t : ℕ → K) (legs eased : List Leg) → Stays 257 legs → Harder ops least legs eased
    → ((x : ℕ) → x < 257 → least (rest ops 257 s x) (rest ops 257 t x))
    → (y : ℕ) → least (rest ops 257 (run ops 257 legs s) y) (rest ops 257 (run ops 257 eased t) y)

-- So for whole walks, and their late weight.
abbrev pub NeverLater : {K : Type 0} → Ops K → (K → K → Type 0) → Type 0
NeverLater ops least =
    (opening lighter : Table) (legs eased : List Leg) → Below 256 opening → Below 256 lighter → Worse ops least opening lighter
    → Stays 257 legs → Harder ops least legs eased
    → (D : ℕ) → least (rest ops 257 (sheet ops 257 opening legs) (D + 1)) (rest ops 257 (sheet ops 257 lighter eased) (D + 1))

-- The same, told of the scenarios alone: the weight of those that end after D.
abbrev pub NeverLaterTold : {K : Type 0} → Ops K → (K → K → Type 0) → Type 0
NeverLaterTold ops least =
    (opening lighter : Table) (legs eased : List Leg) → Below 256 opening → Below 256 lighter → Worse ops least opening lighter
    → Stays 257 legs → Harder ops least legs eased
    → (D : ℕ) → least
    (over ops (filter (λ d. nat_le (D + 1) (outcome legs d)) (scenarios opening legs)) (weight ops))
    (over ops (filter (λ d. nat_le (D + 1) (outcome eased d)) (scenarios lighter eased)) (weight ops))

-- The moves of the subject are such moves.
pub record Fair (move : ℕ → ℕ → ℕ) : Type 0 where
  pub rises : Rising 257 move
  pub stays : (x t : ℕ) → x < 257 → move x t < 257

abbrev pub MovesFair : Type 0
MovesFair = ((g : ℕ) → Fair (after g)) × ((r : ℕ) → Fair (from r))
