use Rattle.std.proofs.Common.{◌+◌, ◌++◌, sym, ap, ◌∙◌, arith}
use Rattle.std.proofs.lemmas.Bool.{cond-true, cond-false, eq-eqb, ne_eqb}
use Rattle.board.specs.Places.{places}
use Rattle.board.specs.Found.{job_of, left_from}
use Rattle.board.proofs.Counted.{left_place, own_found}
use Rattle.board.proofs.Records.{entries_long}
use Rattle.board.proofs.Standing.{asked_stands}
use Rattle.board.proofs.jobs.CountedJobs.look.Goals as goal

pub returns-then-place-lt16-clause-finds : goal.returns-then-place-lt16-clause-finds
returns-then-place-lt16-clause-finds g c =
    let s = c.args.self.now in
    let ps = places s.asked.now.entries in
    let j = job_of s.asked.now.job in
    let rule = g.R.Ranking.ranks s.rule.now in
    let long = entries_long s.asked.now.entries in
    left_place rule ps j s.tick s.place c.requires (omega arith) ∙ ap (λ xs. xs ++ left_from rule ps j s.tick (s.place + 1)) (sym c.ahead_at.ensures)

pub returns-then-tick-self-clause-finds : goal.returns-then-tick-self-clause-finds
returns-then-tick-self-clause-finds g c =
    let s = c.args.self.now in
    let a = s.asked.now in
    let j = job_of a.job in
    own_found (g.R.Ranking.ranks s.rule.now) (places a.entries) j s.tick s.place c.next_release-self.result c.due.result c.requires (omega arith) (entries_long a.entries) (asked_stands a) c.due.ensures c.next_release-self.ensures _ (cond-true _ _ _ (eq-eqb s.tick j.release c.if-tick-self.true))

pub returns-else-tick-self-clause-finds : goal.returns-else-tick-self-clause-finds
returns-else-tick-self-clause-finds g c =
    let s = c.args.self.now in
    let a = s.asked.now in
    let j = job_of a.job in
    own_found (g.R.Ranking.ranks s.rule.now) (places a.entries) j s.tick s.place c.next_release-self.result c.due.result c.requires (omega arith) (entries_long a.entries) (asked_stands a) c.due.ensures c.next_release-self.ensures _ (cond-false _ _ _ (ne_eqb s.tick j.release c.if-tick-self.false))
