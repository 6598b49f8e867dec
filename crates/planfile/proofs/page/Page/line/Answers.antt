use Rattle.std.proofs.Common.{arith}
use Rattle.planfile.specs.Pages.{text}
use Rattle.planfile.specs.Reports.{field}
use Rattle.planfile.proofs.Written.{field_short, after, joined_three}
use Rattle.planfile.proofs.page.Page.line.Goals as goal

pub field-requires-2 : goal.field-requires-2
field-requires-2 c =
    let l = after _ (text c.args.self.now) (field c.args.a 32) 400 21 c.field.ensures c.requires (field_short c.args.a 32 (omega arith)) in
    omega arith

pub field-requires-3 : goal.field-requires-3
field-requires-3 c =
    let l = after _ (text c.args.self.now) (field c.args.a 32) 400 21 c.field.ensures c.requires (field_short c.args.a 32 (omega arith)) in
    let m = after _ _ (field c.args.b 32) 421 21 c.field-2.ensures l (field_short c.args.b 32 (omega arith)) in
    omega arith

pub returns : goal.returns
returns c = joined_three (text c.args.self.now) (field c.args.a 32) (field c.args.b 32) (field c.args.c 10) _ _ _ c.field-3.ensures c.field-2.ensures c.field.ensures
