use Rattle.std.proofs.Common.{◌≡◌, length}
use Rattle.analysis.specs.Cells.{cells, arriving}
use Rattle.analysis.specs.Inner.{joint}
use Rattle.analysis.proofs.adding.spread.Given as goal

abbrev pub invariant-loop-x : goal.invariant-loop-x
invariant-loop-x g l =
    let o = g.W.Weight.ops in
    let old = cells o l.initial.part in
    cells o l.part ≡ joint old (joint (arriving o 0 old l.table) old (length l.initial.part)) l.x
