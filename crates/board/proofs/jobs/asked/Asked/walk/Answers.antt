use Rattle.std.proofs.Common.{List, sym, ap, ◌∙◌, subst, arith}
use Rattle.analysis.specs.Cells.{added}
use Rattle.scenarios.specs.Walks.{lone}
use Rattle.board.specs.Tables.{table_pairs}
use Rattle.board.specs.Places.{places}
use Rattle.board.specs.Jobs.{Job, due}
use Rattle.board.specs.Found.{job_of}
use Rattle.board.specs.Left.{left}
use Rattle.board.specs.Walk.{begun, walked}
use Rattle.board.proofs.Reach.{Rises}
use Rattle.board.proofs.Standing.{asked_stands, asked_near}
use Rattle.board.proofs.Walked.{rises_counted}
use Rattle.board.proofs.jobs.asked.Asked.walk.Goals as goal

pub loop-next-init : goal.loop-next-init
unfolding begun
loop-next-init g c =
    let o = g.W.Weight.ops in
    let settle = g.S.Settle.settles in
    let a = c.args.self.now in
    let j = job_of a.job in
    let opening = table_pairs a.opening in
    let first = c.into_iter-next-iterator.result in
    let rest = left (g.R.Ranking.ranks first.rule.now) first in
    let all = ap (λ s. left (g.R.Ranking.ranks s.rule.now) s) c.into_iter-next-iterator.ensures.into_iter_gives ∙ c.counted-next-items.ensures in
    let laid = c.in_ok-settle.ensures ∙ ap (settle c.pairs-opening.result.now) c.in_ok-begin.ensures ∙ ap (λ ts. settle ts (added o 0 (lone o c.args.x) ts)) c.pairs-opening.ensures in
    let Soon : List Job → Type 0 = λ ks. Rises 0 (due j) ks in (
      tt,
      tt,
      ap (λ f. walked o settle j.release (record { last = 0; sheet = f }) rest) laid ∙ ap (walked o settle j.release (begun o settle c.args.x opening)) all,
      (0, subst Soon (sym all) (rises_counted (g.R.Ranking.ranks c.args.rule.now) (places a.entries) opening j (asked_stands a).deadline_low)),
    )

pub count_in-requires : goal.count_in-requires
count_in-requires g c =
    let a = c.args.self.now in
    let soon = c.loop-next.invariant.3 in
    let Soon : List Job → Type 0 = λ ks. Rises soon.0 (due (job_of a.job)) ks in
    (omega (arith, c.requires), asked_near a c.in-Some.next.release (subst Soon c.in-Some.ensures.steps soon.1).1)
