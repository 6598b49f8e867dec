use Rattle.std.proofs.Common.{◌≡◌}
use Rattle.theory.specs.Rounded.{up}
use Rattle.analysis.specs.Cells.{cells}
use Rattle.kinds.specs.Counts.{count_ops}
use Rattle.analysis.specs.Inner.{joint}
use Rattle.analysis.specs.Rounding.{lessened}
use Rattle.analysis.proofs.rounding.take_differences.Given as goal

abbrev pub invariant-loop-x : goal.invariant-loop-x
invariant-loop-x l =
    let old = cells count_ops l.initial.part in
    (l.next ≡ up (old l.x).value l.by) × (cells count_ops l.part ≡ joint old (lessened l.by old) l.x)
