-- What a sum of whole numbers has to be for its stopped sums and products to be a weight. Assumes nothing.
use Rattle.std.specs.Prelude.{◌≡◌, ℕ, ◌+◌, ◌*◌, ◌≤◌, max}
use Rattle.std.proofs.Common.{add_assoc, add_comm, zero-add, mul-add, arith}
use Rattle.std.proofs.Math.Nat.{max_comm, zero-max}
use Rattle.kinds.specs.Stopped.{stop, stop_add, mul_max}

pub record SumLaws (plus : ℕ → ℕ → ℕ) : Type 0 where
  pub assoc : (a b c : ℕ) → plus (plus a b) c ≡ plus a (plus b c)
  pub comm : (a b : ℕ) → plus a b ≡ plus b a
  pub nought : (a : ℕ) → plus 0 a ≡ a
  pub distributive : (a b c : ℕ) → a * plus b c ≡ plus (a * b) (a * c)
  pub rises : (a b c d : ℕ) → b ≤ a → d ≤ c → plus b d ≤ plus a c
  pub stops : (a b : ℕ) → stop (plus (stop a) b) ≡ stop (plus a b)

pub addition_laws : SumLaws (λ a b. a + b)
addition_laws = record {
  assoc = add_assoc;
  comm = add_comm;
  nought = zero-add;
  distributive = mul-add;
  rises = λ a b c d h k. omega arith;
  stops = stop_add;
}

pub maximum_laws : SumLaws (λ a b. max a b)
maximum_laws = record {
  assoc = λ a b c. omega arith;
  comm = max_comm;
  nought = zero-max;
  distributive = mul_max;
  rises = λ a b c d h k. omega arith;
  stops = λ a b. omega arith;
}
