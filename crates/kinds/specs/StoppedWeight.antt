-- Stopped numbers as weights: one for each sum. Assumes nothing.
use Rattle.std.specs.Prelude.{◌≡◌, ℕ, ◌*◌, ◌^◌, ◌<◌, ◌≤◌, ◌==◌}
use Rattle.std.proofs.Common.{ap, ◌∙◌, sym, subst, mul_comm, one-mul, zero-mul, arith}
use Rattle.std.proofs.Math.Bridge.{le_prop}
use Rattle.theory.specs.Semiring.{Ops, Laws}
use Rattle.kinds.specs.Stopped.{stop, stop_le, stop_mul_assoc, stop_mul_right, stop_mul_le}
use Rattle.kinds.specs.Summing.{SumLaws}
use Rattle.kinds.specs.declared.stopped.Stopped.{Stopped}

abbrev pub stopped : {S : Type 0} → ℕ → Stopped S
stopped n = record { value = stop n; summing = record {}; fits = omega arith }

abbrev pub stopped_ops : {S : Type 0} → (ℕ → ℕ → ℕ) → Ops (Stopped S)
stopped_ops plus = record {
  nought = stopped 0;
  unit = stopped 1;
  sum = λ x y. stopped (plus x.value y.value);
  product = λ x y. stopped (x.value * y.value);
  read = stopped;
  top = λ x. (x.value == 18446744073709551615);
}

abbrev pub stopped_least : {S : Type 0} → Stopped S → Stopped S → Type 0
stopped_least x y = y.value ≤ x.value

made : {S : Type 0} (n : ℕ) → n < 2 ^ 64 → Stopped S
made n h = record { value = n; summing = record {}; fits = h }

pub same_stopped : {S : Type 0} (x y : Stopped S) → x.value ≡ y.value → x ≡ y
unfolding made
same_stopped x y e =
    subst (λ m. (k : m < 2 ^ 64) → x ≡ made m k) e (λ k. ap (made x.value) (le_prop x.fits k)) y.fits

module _ {plus : ℕ → ℕ → ℕ} (laws : SumLaws plus) where
  -- a sum stops wherever one of its parts does
  stop_right : (a b : ℕ) → stop (plus a (stop b)) ≡ stop (plus a b)
  stop_right a b = ap stop (laws.comm a (stop b)) ∙ laws.stops b a ∙ ap stop (laws.comm b a)

  pub stop_sum_assoc : (a b c : ℕ) → stop (plus (stop (plus a b)) c) ≡ stop (plus a (stop (plus b c)))
  stop_sum_assoc a b c = laws.stops (plus a b) c ∙ ap stop (laws.assoc a b c) ∙ sym (stop_right a (plus b c))

  pub stop_mul_sum : (a b c : ℕ) → stop (a * stop (plus b c)) ≡ stop (plus (stop (a * b)) (stop (a * c)))
  stop_mul_sum a b c =
      stop_mul_right a (plus b c)
      ∙ ap stop (laws.distributive a b c)
      ∙ sym (stop_right (stop (a * b)) (a * c) ∙ laws.stops (a * b) (a * c))

  pub stop_sum_le : (a b c d : ℕ) → b ≤ a → d ≤ c → stop (plus b d) ≤ stop (plus a c)
  stop_sum_le a b c d h k = stop_le (laws.rises a b c d h k)

  pub stopped_laws : {S : Type 0} → Laws (stopped_ops {S = S} plus) stopped_least
  stopped_laws = record {
    sum_assoc = λ x y z. same_stopped _ _ (stop_sum_assoc x.value y.value z.value);
    sum_comm = λ x y. ap stopped (laws.comm x.value y.value);
    sum_nought = λ x. same_stopped _ _ (rw (laws.nought x.value) (omega arith));
    product_assoc = λ x y z. same_stopped _ _ (stop_mul_assoc x.value y.value z.value);
    product_comm = λ x y. ap stopped (mul_comm x.value y.value);
    product_unit = λ x. same_stopped _ _ (rw one-mul (omega arith));
    product_nought = λ x. ap stopped (zero-mul x.value);
    distributive = λ x y z. same_stopped _ _ (stop_mul_sum x.value y.value z.value);
    least_refl = λ x. omega arith;
    least_trans = λ x y z h k. omega arith;
    least_sum = λ x y v w h k. stop_sum_le x.value y.value v.value w.value h k;
    least_product = λ x y v w h k. stop_mul_le x.value y.value v.value w.value h k;
  }
