use Rattle.std.proofs.Common.{sym, ap, ◌∙◌, arith}
use Rattle.board.specs.Places.{place_of, entry_of}
use Rattle.book.proofs.Plans.{plan_stands}
use Rattle.book.proofs.drafts.plans.Plan.job.Goals as goal

pub invariant_of-result : goal.invariant_of-result
invariant_of-result c =
    let is = sym c.entry.ensures ∙ ap place_of c.in_ok-task.ensures.ok_part in
    record { sound = plan_stands c.args.self.now c.args.place (entry_of c.in_ok-task.task) is c.args.index c.release_of-release.result c.release_of-release.ensures (omega (arith, c.window-end.ensures.bound)) }
