-- Counts: stopped numbers that are added. Assumes nothing.
use Rattle.std.specs.Prelude.{◌≡◌, ℕ, ◌+◌}
use Rattle.theory.specs.Semiring.{Ops, Laws}
use Rattle.kinds.specs.Summing.{addition_laws}
use Rattle.kinds.specs.StoppedWeight.{stopped, stopped_ops, stopped_least, stopped_laws, same_stopped}
use Rattle.kinds.specs.declared.stopped.Stopped.{Stopped}
use Rattle.kinds.specs.declared.summing.Addition.{Addition}

-- a `Count`
abbrev pub Count : Type 0
Count = Stopped Addition

abbrev pub counted : ℕ → Count
counted n = stopped n

abbrev pub count_ops : Ops Count
count_ops = stopped_ops (λ a b. a + b)

abbrev pub count_least : Count → Count → Type 0
count_least x y = stopped_least x y

pub same_count : (x y : Count) → x.value ≡ y.value → x ≡ y
same_count x y e = same_stopped x y e

pub count_laws : Laws count_ops count_least
count_laws = stopped_laws addition_laws
