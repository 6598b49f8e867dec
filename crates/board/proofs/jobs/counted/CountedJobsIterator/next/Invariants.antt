use Rattle.std.proofs.Common.{◌≡◌}
use Rattle.board.specs.Left.{left, slots}
use Rattle.board.proofs.jobs.counted.CountedJobsIterator.next.Given as goal

abbrev pub invariant-loop-self : goal.invariant-loop-self
invariant-loop-self g l = left (g.R.Ranking.ranks l.self.rule.now) l.self ≡ left (g.R.Ranking.ranks l.initial.self.rule.now) l.initial.self

abbrev pub decreases-loop-self : goal.decreases-loop-self
decreases-loop-self g l = slots l.self
