use Rattle.std.proofs.Common.{◌≡◌, ◌-◌, ◌*◌, ◌≤◌}
use Rattle.analysis.specs.Cells.{cells}
use Rattle.kinds.specs.Counts.{count_ops}
use Rattle.book.specs.Drafts.{plan_book}
use Rattle.board.specs.Places.{entry_of}
use Rattle.book.specs.Asks.{late_sum}
use Rattle.book.proofs.drafts.plans.Plan.sum_late.Given as goal

abbrev pub invariant-loop-index : goal.invariant-loop-index
invariant-loop-index g l =
    (l.late ≡ late_sum (g.R.Ranking.ranks l.rule) (plan_book l.self) l.batch.place (entry_of l.batch.task) l.batch.first (l.index - l.batch.first))
    × (l.late ≤ 1048576 * (l.index - l.batch.first))
    × (cells count_ops l.sheet ≡ cells count_ops l.initial.sheet)
