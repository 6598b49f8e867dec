use Rattle.std.proofs.Common.{codes, arith, lit≤}
use Rattle.planfile.specs.Pages.{text}
use Rattle.planfile.specs.Reports.{field}
use Rattle.planfile.proofs.Written.{field_short, after, joined_three}
use Rattle.planfile.proofs.page.Page.refused_line.Goals as goal

pub write-requires : goal.write-requires
write-requires c =
    let l = after _ (text c.args.self.now) (field c.args.place 32) 400 21 c.field.ensures c.requires (field_short c.args.place 32 (omega arith)) in
    omega arith

pub field-requires-2 : goal.field-requires-2
field-requires-2 c =
    let l = after _ (text c.args.self.now) (field c.args.place 32) 400 21 c.field.ensures c.requires (field_short c.args.place 32 (omega arith)) in
    let m = after _ _ (codes "refused ") 421 8 c.write.ensures l (lit≤ tt) in
    omega arith

pub returns : goal.returns
returns c = joined_three (text c.args.self.now) (field c.args.place 32) (codes "refused ") (field c.args.number 10) _ _ _ c.field-2.ensures c.write.ensures c.field.ensures
