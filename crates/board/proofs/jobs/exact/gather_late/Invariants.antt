use Rattle.std.proofs.Common.{◌≡◌, ℕ, ◌+◌, ◌<◌, ◌≤◌}
use Rattle.analysis.specs.Cells.{cells, span}
use Rattle.board.proofs.jobs.exact.gather_late.Given as goal

abbrev pub invariant-loop-cell : goal.invariant-loop-cell
invariant-loop-cell g l =
    let o = g.W.Weight.ops in
    let old = cells o l.fn.sheet in
    (l.late ≡ span o old (l.deadline + 1) l.cell-index)
    × ((k : ℕ) → k < l.cell-index → cells o l.after k ≡ o.nought)
    × ((k : ℕ) → l.cell-index ≤ k → cells o l.after k ≡ old (l.deadline + 1 + k))
