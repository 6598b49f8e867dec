use Rattle.std.proofs.Common.{◌≡◌}
use Rattle.analysis.specs.Cells.{cells}
use Rattle.analysis.specs.Inner.{joint}
use Rattle.analysis.proofs.spans.erase.Given as goal

abbrev pub invariant-loop-cell : goal.invariant-loop-cell
invariant-loop-cell g l =
    let o = g.W.Weight.ops in
    cells o l.part ≡ joint (λ _. o.nought) (cells o l.initial.part) l.cell-index
