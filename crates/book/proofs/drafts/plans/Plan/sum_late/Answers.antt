use Rattle.std.proofs.Common.{sym, ap, ◌∙◌, arith}
use Rattle.analysis.specs.Cells.{cells, cleared}
use Rattle.kinds.specs.Counts.{count_ops}
use Rattle.book.specs.Drafts.{plan_book}
use Rattle.board.specs.Places.{entry_of}
use Rattle.book.specs.Asks.{rounded_late}
use Rattle.book.proofs.Plans.{late_more, ready_stands}
use Rattle.board.proofs.Sheets.{cleared_twice}
use Rattle.book.proofs.drafts.plans.Plan.sum_late.Goals as goal

pub invariant_of-asked : goal.invariant_of-asked
invariant_of-asked g c =
    record { sound = ready_stands c.args.self.now c.args.batch.now c.loop-index.index c.release_of.result c.requires.0 (omega arith) (omega arith) c.release_of.ensures }

pub loop-index-preserved : goal.loop-index-preserved
unfolding rounded_late
loop-index-preserved g c =
    let b = plan_book c.args.self.now in
    let rule = g.R.Ranking.ranks c.args.rule.now in
    let x = c.args.batch.now in
    let e = entry_of x.task in
    let told = c.in_ok-late.ensures in
    let inv = c.loop-index.invariant in
    let one = told.is.0 ∙ ap (λ r. rounded_late rule b (record { place = x.place; entry = e; release = r })) c.release_of.ensures in (
      late_more rule b x.place e x.first c.loop-index.index c.loop-index.late c.in_ok-late.field-0 (omega arith) inv.0 one,
      omega (arith, inv.1, told.is.1),
      told.leaves.1 ∙ ap (cleared count_ops) (inv.2 ∙ c.in_ok-clear.ensures.1) ∙ cleared_twice count_ops (cells count_ops c.args.sheet.now) ∙ sym c.in_ok-clear.ensures.1,
    )
