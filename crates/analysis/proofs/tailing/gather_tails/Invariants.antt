use Rattle.std.proofs.Common.{◌≡◌, length}
use Rattle.analysis.specs.Cells.{cells}
use Rattle.analysis.specs.Inner.{joint, tails_to}
use Rattle.analysis.proofs.tailing.gather_tails.Given as goal

abbrev pub invariant-loop-x : goal.invariant-loop-x
invariant-loop-x g l =
    let o = g.W.Weight.ops in
    let old = cells o l.initial.part in
    let n = length l.initial.part in
    (l.tail ≡ tails_to o n old l.x) × (cells o l.part ≡ joint old (tails_to o n old) l.x)
