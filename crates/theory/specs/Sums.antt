-- Sums over lists, and spreads: lists of (state, weight), read as finite formal sums. Assumes nothing.
use Rattle.std.specs.Prelude.{ℕ, zero, suc, ◌<◌, Bool, cond, List, [], ◌∷◌, map, nat_eq, nat_le}
use Rattle.std.specs.List.{filter}
use Rattle.theory.specs.Semiring.{Ops}

-- the sum of f over a list
abbrev pub over : {K A : Type 0} → Ops K → List A → (A → K) → K
over ops [] f = ops.nought
over ops (x ∷ xs) f = ops.sum (f x) (over ops xs f)

-- a test as a weight
abbrev pub weigh : {K : Type 0} → Ops K → Bool → K
weigh ops b = cond b ops.unit ops.nought

-- what f comes to over a spread: the sum of weight × f state
abbrev pub mean : {K : Type 0} → Ops K → List (ℕ × K) → (ℕ → K) → K
mean ops S f = over ops S (λ p. ops.product p.1 (f p.0))

-- the weight at v, and the weight at y and above
abbrev pub cell : {K : Type 0} → Ops K → List (ℕ × K) → ℕ → K
cell ops S v = over ops (filter (λ p. nat_eq p.0 v) S) (λ p. p.1)

abbrev pub tail : {K : Type 0} → Ops K → List (ℕ × K) → ℕ → K
tail ops S y = over ops (filter (λ p. nat_le y p.0) S) (λ p. p.1)

-- each state is below n
abbrev pub Below : {B : Type 0} → ℕ → List (ℕ × B) → Type 0
Below n [] = Unit {0}
Below n (p ∷ ps) = (p.0 < n) × Below n ps

-- n - 1, .., 1, 0
unfoldable pub down : ℕ → List ℕ
down zero = []
down (suc n) = n ∷ down n

-- the spread of a sheet of n cells
abbrev pub cells : {K : Type 0} → ℕ → (ℕ → K) → List (ℕ × K)
cells n s = map (λ x. (x, s x)) (down n)

-- the least x below n from which on p holds, for a p that goes on holding; else n
unfoldable pub first : (ℕ → Bool) → ℕ → ℕ
first p zero = zero
first p (suc n) = cond (p n) (first p n) (suc n)
