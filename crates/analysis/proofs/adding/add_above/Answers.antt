use Rattle.std.proofs.Common.{◌-◌, ◌∙◌, ap, take, drop, length-take-le, length-drop, arith}
use Rattle.analysis.specs.Cells.{cells}
use Rattle.analysis.specs.Inner.{overrun_past}
use Rattle.analysis.proofs.Parts.{cells_part}
use Rattle.analysis.proofs.Totals.{overdue_is}
use Rattle.analysis.proofs.Above.{overrun_part, added_parts}
use Rattle.analysis.proofs.adding.add_above.Goals as goal

pub returns : goal.returns
returns g c =
    let o = g.W.Weight.ops in
    let xs = c.args.sheet.now in
    let low = c.args.low in
    let table = c.args.table.now in
    let ys = c.spread.new.part in
    let zs = c.scale.new.part in
    let long = c.in_ok-long_enough.ensures in
    let rest = take (257 - low) (drop low xs) in
    let len_rest = length-take-le (257 - low) (drop low xs) (omega (arith, long, length-drop low xs)) in
    let len_moved = length-take-le (256 - low) (drop low xs) (omega (arith, long, length-drop low xs)) in
    let beyond = c.overrun-beyond.ensures ∙ ap (λ n. overrun_past o n (cells o rest) table) len_rest
    ∙ overrun_part o low (cells o rest) (cells o xs) (257 - low) table (omega arith) (omega arith) (λ i l. cells_part o xs low (257 - low) i l)
    ∙ overdue_is g.W.Weight.laws low (cells o xs) table (omega arith) in
    (long, added_parts o low xs ys zs table (omega arith) long (omega (arith, len_moved)) c.spread.ensures c.total.result c.overrun-beyond.result (omega arith) c.scale.ensures c.total.ensures beyond)
