-- Heaviest weights: stopped numbers of which the larger is kept. Assumes nothing.
use Rattle.std.specs.Prelude.{◌≡◌, ℕ, max}
use Rattle.std.proofs.Common.{arith}
use Rattle.theory.specs.Semiring.{Ops, Laws}
use Rattle.kinds.specs.Summing.{maximum_laws}
use Rattle.kinds.specs.StoppedWeight.{stopped, stopped_ops, stopped_least, stopped_laws, same_stopped}
use Rattle.kinds.specs.declared.stopped.Stopped.{Stopped}
use Rattle.kinds.specs.declared.summing.Maximum.{Maximum}

-- a `Heaviest`
abbrev pub Heaviest : Type 0
Heaviest = Stopped Maximum

abbrev pub heavy : ℕ → Heaviest
heavy n = stopped n

abbrev pub heaviest_ops : Ops Heaviest
heaviest_ops = stopped_ops (λ a b. max a b)

abbrev pub heaviest_least : Heaviest → Heaviest → Type 0
heaviest_least x y = stopped_least x y

pub same_heaviest : (x y : Heaviest) → x.value ≡ y.value → x ≡ y
same_heaviest x y e = same_stopped x y e

-- the larger of two numbers is no larger than both, so the sum does not stop
abbrev pub larger : Heaviest → Heaviest → Heaviest
larger x y = record { value = max x.value y.value; summing = record {}; fits = omega arith }

pub sum_larger : (x y : Heaviest) → heaviest_ops.sum x y ≡ larger x y
sum_larger x y = same_heaviest _ _ (omega arith)

pub heaviest_laws : Laws heaviest_ops heaviest_least
heaviest_laws = stopped_laws maximum_laws
