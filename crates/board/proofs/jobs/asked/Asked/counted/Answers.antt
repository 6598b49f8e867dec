use Rattle.std.proofs.Common.{subst}
use Rattle.board.specs.Places.{places}
use Rattle.board.specs.Found.{job_of, Skips}
use Rattle.board.proofs.Counted.{left_first}
use Rattle.board.proofs.Records.{entries_long}
use Rattle.board.proofs.Standing.{asked_stands}
use Rattle.board.proofs.jobs.asked.Asked.counted.Goals as goal

pub returns : goal.returns
returns g c =
    let a = c.args.self.now in
    let ps = places a.entries in
    let r = c.next_release.result in
    left_first (g.R.Ranking.ranks c.args.rule.now) ps (job_of a.job) r (entries_long a.entries) (asked_stands a) (subst (λ d. Skips ps 0 d r) c.due.ensures c.next_release.ensures)
