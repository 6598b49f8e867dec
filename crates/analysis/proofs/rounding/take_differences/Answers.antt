use Rattle.std.proofs.Common.{◌≡◌, ◌+◌, ◌-◌, length, sym, ap, ◌∙◌, arith}
use Rattle.std.proofs.lemmas.List.{get_or_read, get_or_past}
use Rattle.theory.specs.Rounded.{up}
use Rattle.analysis.specs.Cells.{cells}
use Rattle.kinds.specs.Counts.{counted, count_ops}
use Rattle.analysis.specs.Rounding.{lessened}
use Rattle.analysis.specs.Inner.{joint}
use Rattle.analysis.proofs.Steps.{joint_none, joint_down, joint_below}
use Rattle.analysis.proofs.Parts.{joint_last}
use Rattle.analysis.proofs.Quotients.{up_nought}
use Rattle.analysis.proofs.Differences.{lessened_past}
use Rattle.analysis.proofs.rounding.take_differences.Goals as goal

pub loop-x-init : goal.loop-x-init
loop-x-init c =
    let by = c.args.by in
    let xs = c.args.part.now in
    let n = length xs in
    let last = ap (λ (v : _). up v.value by) (get_or_past xs n (counted 0) (omega arith)) ∙ up_nought by in
    (sym last, joint_last count_ops (lessened by (cells count_ops xs)) xs (lessened_past by xs))

pub loop-x-preserved : goal.loop-x-preserved
loop-x-preserved c =
    let by = c.args.by in
    let old = cells count_ops c.args.part.now in
    let new = lessened by old in
    let now = c.loop-x.part in
    let x = c.loop-x.x in
    let inv = c.loop-x.invariant in
    let read = get_or_read now (x - 1) c.index-part-x.result (omega arith) c.index-part-x.is (counted 0)
    ∙ ap (λ f. f (x - 1)) inv.1 ∙ joint_below old new x (x - 1) (omega arith) in
    let here = c.round_up-here.ensures ∙ ap (λ n. up n by) (c.value.ensures ∙ ap (λ v. v.value) read) in
    let back : x ≡ x - 1 + 1 = omega arith in
    let next = inv.0 ∙ ap (λ k. up (old k).value by) back in (
      here,
      joint_down count_ops old new now x c.new.result (omega arith) (omega arith) inv.1
          (c.new.ensures.one (new (x - 1)) (omega (arith, here, next, c.saturating_sub.ensures, c.saturating_sub.type_inv))),
    )

pub returns : goal.returns
returns c =
    let old = cells count_ops c.args.part.now in
    let new = lessened c.args.by old in
    let all : c.loop-x.x ≡ 0 = omega arith in
    c.loop-x.invariant.1 ∙ ap (joint old new) all ∙ sym (joint_none old new)
