use Rattle.std.proofs.Common.{sym, ap, ◌∙◌, arith}
use Rattle.board.specs.Places.{place_of}
use Rattle.book.proofs.Plans.{round_sized, batch_late, batch_is}
use Rattle.book.proofs.drafts.plans.Plan.batch.Goals as goal

pub overflow_sub-first : goal.overflow_sub-first
overflow_sub-first c =
    let is = sym c.entry.ensures ∙ ap place_of c.in_ok-task.ensures.ok_part in
    omega (arith, (round_sized c.args.self.now c.args.place c.args.round c.hyperperiod.result c.in_ok-task.task is c.hyperperiod.ensures).some)

pub returns-then-last-task : goal.returns-then-last-task
returns-then-last-task c =
    let is = sym c.entry.ensures ∙ ap place_of c.in_ok-task.ensures.ok_part in
    batch_late c.args.self.now c.args.place c.args.round c.hyperperiod.result c.in_ok-task.task is c.hyperperiod.ensures c.release_of-last.result c.window.result c.release_of-last.ensures c.window.ensures.is c.if-round-self.false c.if-last-task.true

pub returns : goal.returns
returns c =
    let is = sym c.entry.ensures ∙ ap place_of c.in_ok-task.ensures.ok_part in
    batch_is c.args.self.now c.args.place c.args.round c.hyperperiod.result c.in_ok-task.task is c.hyperperiod.ensures c.release_of-last.result c.window.result c.release_of-last.ensures c.window.ensures.is c.if-round-self.false c.if-last-task.false
