use Rattle.std.proofs.Common.{◌≡◌, ◌++◌, length, get_or, None, sym, ap, ◌∙◌, arith}
use Rattle.book.specs.Drafts.{plan_book}
use Rattle.planfile.specs.Pages.{text}
use Rattle.planfile.specs.Reports.{header, place_line}
use Rattle.planfile.proofs.Lined.{lines_none, lines_more}
use Rattle.planfile.proofs.reports.plan_page.Goals as goal

pub loop-place-init : goal.loop-place-init
loop-place-init c =
    let start : text c.write.new.self ≡ header = c.write.ensures ∙ ap (λ s. s ++ header) c.new-page.ensures in
    let l = ap length start in
    (start ∙ ap (λ s. header ++ s) (sym (lines_none (plan_book c.args.plan.now))), omega arith)

pub loop-place-preserved : goal.loop-place-preserved
loop-place-preserved c =
    let b = plan_book c.args.plan.now in
    let i = c.loop-place.place in (
      c.write_place.ensures.writes ∙ (ap (λ s. s ++ place_line b i (get_or b.places i None)) c.loop-place.invariant.0 ∙ sym (lines_more b i)),
      omega (arith, c.write_place.ensures.short, c.loop-place.invariant.1),
    )
