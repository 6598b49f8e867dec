use Rattle.std.proofs.Common.{◌+◌, get_or, unwrap_or, sym, ap, ◌∙◌, arith}
use Rattle.planfile.specs.Contents.{blank}
use Rattle.planfile.proofs.Entering.{within_at, right_more, offset_body, offset_count, offset_pair}
use Rattle.planfile.proofs.bodies.Bodies.refused_at.Goals as goal

pub returns-in_default : goal.returns-in_default
returns-in_default c = sym (offset_body c.args.self.now.fields.file.now (get_or c.args.self.now.entries.now c.args.i blank) c.args.refusal c.in_default.not-Table)

pub returns-in_err-named : goal.returns-in_err-named
returns-in_err-named c =
    let k = c.in_err-named.ensures in
    let w = within_at c.args.self.now.fields.file.now c.args.self.now.entries.now c.args.i c.requires.listed c.args.self.now.fits in
    absurd (omega (arith, k.0))

pub returns-then-named-eq0 : goal.returns-then-named-eq0
returns-then-named-eq0 c =
    let e = get_or c.args.self.now.entries.now c.args.i blank in
    sym (offset_count c.args.self.now.fields.file.now e c.args.refusal c.in-Table.is c.in_ok-named.named c.in_ok-named.ensures.1 c.then-named-eq0.either)

pub returns : goal.returns
returns c =
    let f = c.args.self.now.fields.file.now in
    let es = c.args.self.now.entries.now in
    let i = c.args.i in
    let e = get_or es i blank in
    let w = c.in_ok-wrong.ensures ∙ right_more f es i c.requires.listed c.requires.right in
    let o = offset_pair f e c.args.refusal c.in-Table.is c.in_ok-named.named c.in_ok-named.ensures.1 c.if-named-eq0.false c.if-named-gt16.false in
    c.unwrap_or.ensures ∙ (ap (λ x. unwrap_or x (e.start + 5)) w ∙ sym o)
