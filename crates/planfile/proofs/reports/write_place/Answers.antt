use Rattle.std.proofs.Common.{◌++◌, length, get_or, None, Ok, Err, ap, ◌∙◌, arith}
use Rattle.book.specs.Drafts.{plan_book}
use Rattle.board.specs.Places.{entry_of}
use Rattle.book.specs.Refusals.{number}
use Rattle.planfile.specs.Pages.{text}
use Rattle.planfile.specs.Reports.{line, refused_line}
use Rattle.planfile.proofs.Lined.{answer_short, refused_short, place_line_is}
use Rattle.planfile.proofs.Written.{after}
use Rattle.planfile.proofs.reports.write_place.Goals as goal

pub returns-in-Ok : goal.returns-in-Ok
returns-in-Ok c =
    let b = plan_book c.args.plan.now in
    let p = c.args.place in
    let x = c.in-Ok.found in
    let before = text c.args.page.now in
    let k = c.in-Ok.ensures in
    let is = place_line_is b p (get_or b.places p None) (entry_of c.in-Some.field-0) (Ok x) (c.in-Some.ensures ∙ ap (λ d. get_or d.places p None) c.draft.ensures) k.answers in
    record {
      writes = c.line.ensures ∙ ap (λ s. before ++ s) is;
      short = after _ before (line p x.jobs x.late) (length before) 15 c.line.ensures (omega arith) (answer_short p x.jobs x.late c.requires.listed k.small.0 k.small.1);
    }

pub returns-in-Err : goal.returns-in-Err
returns-in-Err c =
    let b = plan_book c.args.plan.now in
    let p = c.args.place in
    let r = c.in-Err.refusal in
    let n = c.number.result in
    let before = text c.args.page.now in
    let k = c.in-Err.ensures in
    let is = place_line_is b p (get_or b.places p None) (entry_of c.in-Some.field-0) (Err (number r)) (c.in-Some.ensures ∙ ap (λ d. get_or d.places p None) c.draft.ensures) k.answers in
    record {
      writes = c.refused_line.ensures ∙ (ap (λ m. before ++ refused_line p m) c.number.ensures ∙ ap (λ s. before ++ s) is);
      short = after _ before (refused_line p n) (length before) 15 c.refused_line.ensures (omega arith) (refused_short p n c.requires.listed (omega arith));
    }
