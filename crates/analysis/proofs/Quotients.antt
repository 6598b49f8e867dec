-- Division that rounds up. Assumes nothing.
use Rattle.std.proofs.Common.{◌≡◌, ℕ, ◌+◌, ◌-◌, ◌*◌, ◌/◌, ◌%◌, ◌<◌, ◌≤◌, ◌⊎◌, ap, ◌∙◌, inl, inr, mod-lt, div-lt_iff_lt-mul, add-mul, mul-le-mul_left, div-add-mod', arith}
use native.Mathlib.Nat.{div-zero, div-eq_of_lt}
use Rattle.std.specs.Int.{div_ceil}
use Rattle.std.proofs.lemmas.Nat.{div-mul-add}
use Rattle.std.proofs.lemmas.Bool.{cases_lt}
use Rattle.theory.proofs.Cells.{up_falls as up_rises}
use Rattle.theory.specs.Rounded.{up}

pub up_by_nought : (a d : ℕ) → d ≡ 0 → up a d ≡ 0
unfolding up
up_by_nought a d e = rw e (div-zero (a + (0 - 1)))

pub up_even : (a d : ℕ) → 0 < d → a % d ≡ 0 → up a d ≡ a / d
unfolding up
up_even a d p e =
    let s : a + (d - 1) ≡ a / d * d + (d - 1) = omega (arith, div-add-mod' a d) in
    ap (λ n. n / d) s ∙ div-mul-add (a / d) d (d - 1) (omega arith)

pub up_uneven : (a d : ℕ) → 0 < d → 0 < a % d → up a d ≡ a / d + 1
unfolding up
up_uneven a d p l =
    let s : a + (d - 1) ≡ (a / d + 1) * d + (a % d - 1) = omega (arith, div-add-mod' a d, add-mul (a / d) 1 d) in
    ap (λ n. n / d) s ∙ div-mul-add (a / d + 1) d (a % d - 1) (omega (arith, mod-lt a p))

up_ceil_at : (a d : ℕ) → 0 < d → (a % d < 1) ⊎ (1 ≤ a % d) → up a d ≡ div_ceil a d
up_ceil_at a d p (inl z) = let none : a / d ≡ div_ceil a d = omega arith in up_even a d p (omega arith) ∙ none
up_ceil_at a d p (inr l) = let one : a / d + 1 ≡ div_ceil a d = omega arith in up_uneven a d p l ∙ one

-- the library's `div_ceil`
pub up_ceil : (a d : ℕ) → 0 < d → up a d ≡ div_ceil a d
up_ceil a d p = up_ceil_at a d p (cases_lt (a % d) 1)

up_nought_at : (d : ℕ) → (d < 1) ⊎ (1 ≤ d) → up 0 d ≡ 0
unfolding up
up_nought_at d (inl z) = up_by_nought 0 d (omega arith)
up_nought_at d (inr p) = div-eq_of_lt (omega arith)

pub up_nought : (d : ℕ) → up 0 d ≡ 0
up_nought d = up_nought_at d (cases_lt d 1)

up_falls_at : (a b d : ℕ) → a ≤ b → (d < 1) ⊎ (1 ≤ d) → up a d ≤ up b d
up_falls_at a b d l (inl z) = omega (arith, up_by_nought a d (omega arith))
up_falls_at a b d l (inr p) = up_rises a b d p l

pub up_falls : (a b d : ℕ) → a ≤ b → up a d ≤ up b d
up_falls a b d l = up_falls_at a b d l (cases_lt d 1)

up_le_at : (a d : ℕ) → (d < 1) ⊎ (1 ≤ d) → up a d ≤ a
unfolding up
up_le_at a d (inl z) = omega (arith, up_by_nought a d (omega arith))
up_le_at a d (inr p) =
    let m : a ≤ a * d = omega (arith, mul-le-mul_left a p) in
    omega (arith, (div-lt_iff_lt-mul {k = d} {x = a + (d - 1)} {y = a + 1} p).1 (omega (arith, add-mul a 1 d, m)))

pub up_le : (a d : ℕ) → up a d ≤ a
up_le a d = up_le_at a d (cases_lt d 1)

-- a number divided by its factor
pub up_times : (m d : ℕ) → 0 < d → up (m * d) d ≡ m
unfolding up
up_times m d p = div-mul-add m d (d - 1) (omega arith)

up_most_at : (a m d : ℕ) → a ≤ m * d → (d < 1) ⊎ (1 ≤ d) → up a d ≤ m
up_most_at a m d l (inl z) = omega (arith, up_by_nought a d (omega arith))
up_most_at a m d l (inr p) = omega (arith, up_falls a (m * d) d l, up_times m d p)

pub up_most : (a m d : ℕ) → a ≤ m * d → up a d ≤ m
up_most a m d l = up_most_at a m d l (cases_lt d 1)
