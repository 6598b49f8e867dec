-- What the operations do to the tails of a sheet, for other crates to cite. Assumes nothing.
use Rattle.std.proofs.Common.{◌≡◌, ℕ, zero, suc, ◌+◌, ◌-◌, ◌*◌, ◌<◌, ◌≤◌, ◌⊎◌, List, sym, ap, ◌∙◌, inl, inr, mul-le-mul_right, arith}
use Rattle.std.proofs.lemmas.Bool.{cases_lt}
use Rattle.theory.specs.Rounded.{up}
use Rattle.analysis.specs.Cells.{span, tail, passed, total, added}
use Rattle.kinds.specs.Counts.{Count, count_ops, count_laws}
use Rattle.analysis.specs.Kept.{RoundingDivides}
use Rattle.analysis.specs.Rounding.{rounded_off}
use Rattle.kinds.specs.Stopped.{stop}
use Rattle.analysis.specs.declared.pair.Pair.{Pair}
use Rattle.analysis.proofs.Steps.{tail_step}
use Rattle.analysis.proofs.Differences.{rounded_at}
use Rattle.analysis.proofs.Quotients.{up_nought, up_falls, up_le, up_most}
use Rattle.analysis.proofs.Whole.{passing_keeps, adding_multiplies}

-- past the last cell there is no weight
pub tail_past : (f : ℕ → Count) (x : ℕ) → 257 ≤ x → (tail count_ops f x).value ≡ 0
tail_past f x l = let e : 257 - x ≡ 0 = omega arith in ap (λ n. (span count_ops f x n).value) e

tail_next : (f : ℕ → Count) (x : ℕ) → (x < 257) ⊎ (257 ≤ x) → (tail count_ops f (x + 1)).value ≤ (tail count_ops f x).value
tail_next f x (inl l) = omega (arith, ap (λ v. v.value) (tail_step count_laws f x l), (tail count_ops f (x + 1)).fits)
tail_next f x (inr l) = omega (arith, tail_past f (x + 1) (omega arith))

pub tail_falls : (f : ℕ → Count) (x : ℕ) → (tail count_ops f (x + 1)).value ≤ (tail count_ops f x).value
tail_falls f x = tail_next f x (cases_lt x 257)

falling : (R : ℕ → ℕ) → ((x : ℕ) → R (x + 1) ≤ R x) → (x : ℕ) → R x ≤ R 0
falling R down zero = omega arith
falling R down (suc x) = let e : suc x ≡ x + 1 = omega arith in omega (arith, ap R e, down x, falling R down x)

-- no tail is heavier than the whole sheet
pub tail_most : (f : ℕ → Count) (x : ℕ) → (tail count_ops f x).value ≤ (tail count_ops f 0).value
tail_most f = falling (λ x. (tail count_ops f x).value) (tail_falls f)

module _ (by : ℕ) (f : ℕ → Count) where
  abbrev rounded_tail : ℕ → ℕ
  rounded_tail x = up (tail count_ops f x).value by

  rounded_from : (j x : ℕ) → x + j ≡ 257 → (tail count_ops (rounded_off by f) x).value ≡ rounded_tail x
  rounded_from zero x e =
      tail_past (rounded_off by f) x (omega arith) ∙ sym (ap (λ n. up n by) (tail_past f x (omega arith)) ∙ up_nought by)
  rounded_from (suc j) x e =
      let step = ap (λ v. v.value) (tail_step count_laws (rounded_off by f) x (omega arith)) in
      let here = ap (λ v. v.value) (rounded_at by f x (omega arith)) in
      let next = rounded_from j (x + 1) (omega arith) in
      let falls = up_falls (tail count_ops f (x + 1)).value (tail count_ops f x).value by (tail_falls f x) in
      let most = up_le (tail count_ops f x).value by in
      omega (arith, step, here, next, falls, most, (tail count_ops f x).fits)

  rounded_each : (x : ℕ) → (x < 257) ⊎ (257 ≤ x) → (tail count_ops (rounded_off by f) x).value ≡ rounded_tail x
  rounded_each x (inl l) = rounded_from (257 - x) x (omega arith)
  rounded_each x (inr l) =
      tail_past (rounded_off by f) x l ∙ sym (ap (λ n. up n by) (tail_past f x l) ∙ up_nought by)

pub rounding_divides : RoundingDivides
rounding_divides by f x = rounded_each by f x (cases_lt x 257)

le_same : (a b : ℕ) → a ≡ b → a ≤ b
le_same a b e = omega arith

le_both : (a b m : ℕ) → a ≤ b → b ≤ m → a ≤ m
le_both a b m h k = omega arith

le_through : (a b m : ℕ) → a ≡ b → b ≤ m → a ≤ m
le_through a b m e l = omega arith

stopped : (n k : ℕ) → n ≤ k → stop n ≤ k
stopped n k h = omega arith

-- rounding leaves at most the whole weight, divided and rounded up
pub rounded_whole : (by : ℕ) (f : ℕ → Count) → (tail count_ops (rounded_off by f) 0).value ≤ up (tail count_ops f 0).value by
rounded_whole by f = le_same _ _ (rounding_divides by f 0)

-- A BOUND ON THE WHOLE WEIGHT
-- `tail ops f 0` computes to 257 sums, which omega does not take in: these lemmas carry a bound m on it from step to step.
-- no tail passes it
pub tail_bound : (f : ℕ → Count) (x m : ℕ) → (tail count_ops f 0).value ≤ m → (tail count_ops f x).value ≤ m
tail_bound f x m = le_both _ _ m (tail_most f x)

-- passing keeps it
pub passed_bound : (g : ℕ) (f : ℕ → Count) (m : ℕ) → (tail count_ops f 0).value ≤ m → (tail count_ops (passed count_ops g f) 0).value ≤ m
passed_bound g f m = le_through _ _ m (ap (λ v. v.value) (passing_keeps count_laws g f))

-- adding multiplies it by the table's total
pub added_bound : (low : ℕ) (f : ℕ → Count) (table : List Pair) (m : ℕ) → low ≤ 256 → (tail count_ops f 0).value ≤ m
    → (tail count_ops (added count_ops low f table) 0).value ≤ m * (total count_ops table).value
added_bound low f table m most l =
    le_through _ _ _ (ap (λ v. v.value) (adding_multiplies count_laws low f table most)) (stopped _ _ (mul-le-mul_right _ l))

-- rounding divides it
pub rounded_bound : (by : ℕ) (f : ℕ → Count) (m : ℕ) → (tail count_ops f 0).value ≤ m * by → (tail count_ops (rounded_off by f) 0).value ≤ m
rounded_bound by f m l = le_through _ _ m (rounding_divides by f 0) (up_most _ m by l)
