use Rattle.std.proofs.Common.{◌≡◌, ◌-◌, length, sym, ap, ◌∙◌, arith}
use Rattle.analysis.specs.Cells.{cells, arriving}
use Rattle.analysis.specs.Inner.{joint}
use Rattle.analysis.proofs.Steps.{joint_none, joint_down, joint_below, arriving_same}
use Rattle.analysis.proofs.adding.spread.Goals as goal

pub loop-x-preserved : goal.loop-x-preserved
loop-x-preserved g c =
    let o = g.W.Weight.ops in
    let old = cells o c.args.part.now in
    let x = c.loop-x.x in
    let arr = arriving o 0 old c.args.table.now in
    let n = length c.args.part.now in
    let new = joint arr old n in
    let inv = c.loop-x.invariant in
    let unread = arriving_same o 0 (cells o c.loop-x.part) old c.args.table.now (x - 1)
    (λ k l. ap (λ f. f k) inv ∙ joint_below old new x k (omega arith)) in
    joint_down o old new c.loop-x.part x c.arrived.result (omega arith) (omega arith) inv
    (c.arrived.ensures ∙ unread ∙ sym (joint_below arr old n (x - 1) (omega arith)))

pub returns : goal.returns
returns g c =
    let o = g.W.Weight.ops in
    let old = cells o c.args.part.now in
    let new = joint (arriving o 0 old c.args.table.now) old (length c.args.part.now) in
    let all : c.loop-x.x ≡ 0 = omega arith in
    c.loop-x.invariant ∙ ap (joint old new) all ∙ sym (joint_none old new)
