use Rattle.std.proofs.Common.{[], ◌∷◌, ◌++◌, ◌∙◌, sym}
use Rattle.lines.specs.Fields.{left}
use Rattle.lines.specs.Tables.{pairs}
use Rattle.lines.proofs.Held.{kept_more, pairs_further}
use Rattle.lines.proofs.tables.pairs.Goals as goal

pub loop-field-preserved : goal.loop-field-preserved
loop-field-preserved c =
    let inv = c.loop-field.invariant in
    let p = c.in_ok-from_field.field-0 in
    let all = pairs (left c.args.fields) in
    let before = left c.loop-field.field-iterator in
    let after = left c.next.new.self in (
      inv.0 ++ p ∷ [],
      c.push.ensures ∙ kept_more c.loop-field.list p inv.0 inv.1,
      pairs_further all c.in-Some.field.now before after inv.0 p inv.2 c.in-Some.ensures.steps (sym c.in_ok-from_field.ensures),
    )
