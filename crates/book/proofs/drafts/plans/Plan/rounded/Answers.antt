use Rattle.std.proofs.Common.{◌≤◌, length, arith}
use Rattle.book.specs.Drafts.{plan_book}
use Rattle.board.specs.Found.{job_of}
use Rattle.board.specs.Asked.{question_asked}
use Rattle.book.proofs.Plans.{late_told}
use Rattle.book.proofs.drafts.plans.Plan.rounded.Goals as goal

pub returns-clause-answers : goal.returns-clause-answers
returns-clause-answers g c =
    let rule = g.R.Ranking.ranks c.args.rule.now in
    let a = c.in_ok-job.job in
    let f = c.in_ok-job.ensures in
    let la : 257 ≤ length c.args.answer.now = omega arith in
    let lw : 257 ≤ length c.args.work.now = omega arith in
    late_told rule (plan_book c.args.self.now) _ (job_of a.job) (question_asked rule a) f.finds (f.in_book rule) (length c.args.answer.now) (length c.args.work.now) c.in_ok-late.late c.in_ok-late.ensures.is.0 la lw
