use Rattle.std.proofs.Common.{◌≡◌}
use Rattle.analysis.specs.Cells.{cells}
use Rattle.analysis.specs.Inner.{scaled}
use Rattle.analysis.proofs.adding.scale.Given as goal

abbrev pub invariant-loop-cell : goal.invariant-loop-cell
invariant-loop-cell g l =
    let o = g.W.Weight.ops in
    cells o l.part ≡ scaled o l.cell-index l.by (cells o l.initial.part)
