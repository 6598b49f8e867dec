use Rattle.std.proofs.Common.{◌≡◌, get_or, Err, sym, ap, ◌∙◌, arith}
use Rattle.book.specs.Drafts.{draft_book}
use Rattle.book.specs.Refusals.{number}
use Rattle.planfile.specs.Faults.{told, book_fault}
use Rattle.planfile.specs.Contents.{blank}
use Rattle.planfile.specs.Bodies.{body_refusal}
use Rattle.planfile.proofs.Entering.{within_at, body_read, body_taken, body_refused, entered_right, right_more, entered_goes, entered_stops, numbered}
use Rattle.planfile.proofs.bodies.Bodies.enter.Goals as goal

pub returns-in_err-body : goal.returns-in_err-body
returns-in_err-body c =
    let k = c.in_err-body.ensures in
    let w = within_at c.args.self.now.fields.file.now c.args.self.now.entries.now c.loop-i.i c.loop-i-test.true c.args.self.now.fits in
    absurd (omega (arith, k.0))

pub returns-in-Err : goal.returns-in-Err
returns-in-Err c =
    let f = c.args.self.now.fields.file.now in
    let es = c.args.self.now.entries.now in
    let i = c.loop-i.i in
    let b = draft_book c.loop-i.draft in
    let e = get_or es i blank in
    let body = c.in_ok-body.body in
    let k = c.in_ok-body.ensures in
    let r = c.in-Err.refusal in
    let x = body_read f b e body.period body.phase body.deadline c.as_slice-table.result.now k.0 k.1 k.2 (c.as_slice-table.ensures.is ∙ k.3) in
    let n : number r ≡ body_refusal f b e = c.in-Err.ensures.answers ∙ x.answers in
    let t : told c.at.result ≡ book_fault (number r) c.in_ok-offset.offset = ap told c.at.ensures ∙ ap (λ y. told (record { cause = y.cause; offset = c.in_ok-offset.offset })) c.from.ensures in
    let h = ap Err (t ∙ ap (book_fault (number r)) c.in_ok-offset.ensures) ∙ body_refused f b e (number r) (numbered r).0 n in
    sym (entered_stops f b es i c.loop-i-test.true (told c.at.result) h) ∙ c.loop-i.invariant.0

pub loop-i-preserved : goal.loop-i-preserved
loop-i-preserved c =
    let f = c.args.self.now.fields.file.now in
    let es = c.args.self.now.entries.now in
    let i = c.loop-i.i in
    let lt = c.loop-i-test.true in
    let b = draft_book c.loop-i.draft in
    let next = draft_book c.enter.new.self in
    let e = get_or es i blank in
    let body = c.in_ok-body.body in
    let k = c.in_ok-body.ensures in
    let x = body_read f b e body.period body.phase body.deadline c.as_slice-table.result.now k.0 k.1 k.2 (c.as_slice-table.ensures.is ∙ k.3) in
    let h = body_taken f b e next (sym x.answers ∙ sym c.in_default.ensures.answers) (c.in_default.ensures.leaves ∙ x.leaves) in (
      sym (entered_goes f b es i lt next h) ∙ c.loop-i.invariant.0,
      right_more f es i lt c.loop-i.invariant.1 ∙ entered_right f b next e h,
    )
