-- A quotient that is rounded up, and the largest of the cells.
use Rattle.std.proofs.Common.{◌≡◌, ℕ, zero, suc, ◌+◌, ◌-◌, ◌*◌, ◌/◌, ◌<◌, ◌≤◌, List, length, take, fold, max, sym, refl, ap, ◌∙◌, ⊎_elim, arith}
use native.Mathlib.Nat.{div-zero}
use Rattle.std.specs.Int.{div_ceil}
use Rattle.std.proofs.Math.Nat.{div-eq_of_lt-le}
use Rattle.std.proofs.lemmas.Grind.{div_ceil_times}
use Rattle.std.proofs.lemmas.Bool.{cases_lt}
use Rattle.std.proofs.lemmas.List.{get_or_past, take_all}
use Rattle.std.proofs.lemmas.List.Sums.{fold_more}
use Rattle.theory.specs.Semiring.{Ops}
use Rattle.theory.specs.Rounded.{up}
use Rattle.analysis.specs.Cells.{cells}
use Rattle.answers.specs.Charts.{largest}

-- the quotient for a divisor above 0
pub up_is_ceil : (number by : ℕ) → 0 < by → div_ceil number by ≡ up number by
unfolding up
up_is_ceil number by above =
    let bounds = div_ceil_times number by above in
    let low : div_ceil number by * by ≤ number + (by - 1) = omega (arith, bounds.1) in
    let high : number + (by - 1) < (div_ceil number by + 1) * by = grind (arith, bounds.0) in
    sym (div-eq_of_lt-le by low high)

-- that for the divisor 0
pub up_by_nought : (number by : ℕ) → by ≡ 0 → 0 ≡ up number by
unfolding up
up_by_nought number by e = sym (ap (λ d. (number + (d - 1)) / d) e ∙ div-zero _)

-- the largest of a sheet's first n sizes; the cells past its end have the size 0
pub largest_is : {K : Type 0} (ops : Ops K) (size : K → ℕ) (xs : List K) (n : ℕ) → size ops.nought ≡ 0 → fold (λ most x. max most (size x)) 0 (take n xs) ≡ largest size (cells ops xs) n
unfolding largest
largest_is ops size xs zero none = refl
largest_is ops size xs (suc n) none =
    let so_far = largest_is ops size xs n none in
    ⊎_elim
    (λ inside.
    let e : suc n ≡ n + 1 = omega arith in
    ap (λ k. fold (λ most x. max most (size x)) 0 (take k xs)) e
    ∙ (fold_more (λ most x. max most (size x)) 0 xs n ops.nought inside
    ∙ ap (λ most. max most (size (cells ops xs n))) so_far))
    (λ past.
    let same : take (suc n) xs ≡ take n xs = take_all (suc n) xs (omega arith) ∙ sym (take_all n xs past) in
    let blank : size (cells ops xs n) ≡ 0 = ap size (get_or_past xs n ops.nought past) ∙ none in
    ap (fold (λ most x. max most (size x)) 0) same
    ∙ (so_far ∙ omega (arith, blank)))
    (cases_lt n (length xs))
