use Rattle.std.proofs.Common.{◌+◌, ap, ◌∙◌}
use Rattle.planfile.specs.Bodies.{pairs}
use Rattle.planfile.proofs.Wrong.{table_held, table_empty}
use Rattle.planfile.proofs.bodies.Body.read.Goals as goal
use Rattle.planfile.proofs.bodies.Body.read.Goals.{then-named-le16, else-named-le16}

pub returns : goal.returns
returns c =
    let f = c.args.fields.now.file.now in
    let at = c.args.at in
    let n = c.in_ok-named.ensures.1 in
    let t = c.in_ok-table.ensures in (
      c.in_ok-period.ensures.1,
      c.in_ok-phase.ensures.1,
      c.in_ok-deadline.ensures.1,
      elim c.if-named-le16.branch [
        | then-named-le16 w ↦ table_held f (at + 6) c.in_ok-named.field-0 c.in_ok-table.table.items w.if-named-le16.true _ n (t ∙ ap (pairs f (at + 6)) w.count-is)
        | else-named-le16 w ↦ table_empty f (at + 6) c.in_ok-named.field-0 c.in_ok-table.table.items w.if-named-le16.false _ n (t ∙ ap (pairs f (at + 6)) w.count-is)
      ],
    )
