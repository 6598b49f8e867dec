use Rattle.std.proofs.Common.{sym, ◌∙◌, arith}
use Rattle.board.specs.Places.{places}
use Rattle.board.specs.Found.{job_of}
use Rattle.board.proofs.Counted.{left_none}
use Rattle.board.proofs.jobs.counted.CountedJobsIterator.next.Goals as goal

pub returns-clause-steps : goal.returns-clause-steps
returns-clause-steps g c =
    let s = c.loop-self.self in
    let none = left_none (g.R.Ranking.ranks s.rule.now) (places s.asked.now.entries) (job_of s.asked.now.job) s.tick s.place (omega arith) in
    (sym c.loop-self.invariant ∙ none, none)
