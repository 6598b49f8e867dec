use Rattle.std.proofs.Common.{◌≡◌, ℕ}
use Rattle.analysis.specs.Cells.{cells}
use Rattle.board.specs.Tables.{table_pairs}
use Rattle.board.specs.Places.{places}
use Rattle.board.specs.Jobs.{due, counted}
use Rattle.board.specs.Found.{job_of}
use Rattle.board.specs.Left.{left}
use Rattle.board.specs.Walk.{begun, walked}
use Rattle.board.proofs.Reach.{Rises}
use Rattle.board.proofs.jobs.asked.Asked.walk.Given as goal

-- what is left of the counted jobs leads to where all of them lead from the start, and is released before the job is due
abbrev pub invariant-loop-next : goal.invariant-loop-next
invariant-loop-next g l =
    let o = g.W.Weight.ops in
    let settle = g.S.Settle.settles in
    let j = job_of l.self.job in
    let rest = left (g.R.Ranking.ranks l.next-iterator.rule.now) l.next-iterator in
    (goal.iterator-loop-next g).can_next l.next-iterator
    × (goal.iterator-loop-next g).is_finite l.next-iterator
    × (walked o settle j.release (record { last = l.last; sheet = cells o l.sheet }) rest
    ≡ walked o settle j.release (begun o settle l.fn.x (table_pairs l.self.opening)) (counted (g.R.Ranking.ranks l.rule) (places l.self.entries) j))
    × ((low : ℕ) × Rises low (due j) rest)
