use Rattle.std.proofs.Common.{◌≡◌, ◌-◌, length, sym, ap, ◌∙◌, ap₂, arith}
use Rattle.std.proofs.lemmas.List.{get_or_read}
use Rattle.analysis.specs.Cells.{cells}
use Rattle.analysis.specs.Inner.{joint, tails_to}
use Rattle.analysis.proofs.Steps.{joint_none, joint_down, joint_below, tails_to_more, tails_to_past}
use Rattle.analysis.proofs.Parts.{joint_last}
use Rattle.analysis.proofs.tailing.gather_tails.Goals as goal

pub loop-x-init : goal.loop-x-init
loop-x-init g c =
    let o = g.W.Weight.ops in
    let xs = c.args.part.now in
    let n = length xs in
    (c.nought-tail.ensures ∙ sym (tails_to_past o (cells o xs) n n (omega arith)), joint_last o (tails_to o n (cells o xs)) xs (tails_to_past o (cells o xs) n))

pub loop-x-preserved : goal.loop-x-preserved
loop-x-preserved g c =
    let o = g.W.Weight.ops in
    let old = cells o c.args.part.now in
    let n = length c.args.part.now in
    let new = tails_to o n old in
    let now = c.loop-x.part in
    let x = c.loop-x.x in
    let inv = c.loop-x.invariant in
    let here = get_or_read now (x - 1) c.index-part-x.result (omega arith) c.index-part-x.is o.nought
    ∙ ap (λ f. f (x - 1)) inv.1 ∙ joint_below old new x (x - 1) (omega arith) in
    let tail = c.sum-tail.ensures ∙ ap₂ o.sum here inv.0 ∙ sym (tails_to_more g.W.Weight.laws old n x (omega arith) (omega arith)) in
    (tail, joint_down o old new now x c.sum-tail.result (omega arith) (omega arith) inv.1 tail)

pub returns : goal.returns
returns g c =
    let o = g.W.Weight.ops in
    let old = cells o c.args.part.now in
    let new = tails_to o (length c.args.part.now) old in
    let all : c.loop-x.x ≡ 0 = omega arith in
    c.loop-x.invariant.1 ∙ ap (joint old new) all ∙ sym (joint_none old new)
