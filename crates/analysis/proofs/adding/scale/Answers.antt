use Rattle.std.proofs.Common.{ℕ, ap, ◌∙◌, arith}
use Rattle.std.proofs.lemmas.List.{get_or_default}
use Rattle.analysis.specs.Cells.{cells}
use Rattle.analysis.proofs.Steps.{joint_up, joint_above}
use Rattle.analysis.proofs.adding.scale.Goals as goal

pub loop-cell-preserved : goal.loop-cell-preserved
loop-cell-preserved g c =
    let o = g.W.Weight.ops in
    let old = cells o c.args.part.now in
    let x = c.loop-cell.cell-index in
    let new = λ (k : ℕ). o.product (old k) c.args.by in
    let here = get_or_default c.loop-cell.part x c.cell-item.result o.nought (omega arith) in
    let unread = ap (λ f. f x) c.loop-cell.invariant ∙ joint_above new old x x (omega arith) in
    joint_up o new old c.loop-cell.part x c.product.result (omega arith) c.loop-cell.invariant
    (c.product.ensures ∙ ap (λ v. o.product v c.args.by) (here ∙ unread))
