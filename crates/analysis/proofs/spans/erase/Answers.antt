use Rattle.std.proofs.Common.{ℕ, ◌≡◌, length, refl, ap, ◌∙◌, arith}
use Rattle.analysis.specs.Cells.{cells}
use Rattle.analysis.specs.Inner.{joint}
use Rattle.analysis.proofs.Steps.{joint_up}
use Rattle.analysis.proofs.Parts.{joint_past}
use Rattle.analysis.proofs.spans.erase.Goals as goal

pub loop-cell-preserved : goal.loop-cell-preserved
loop-cell-preserved g c =
    let o = g.W.Weight.ops in
    joint_up o (λ (k : ℕ). o.nought) (cells o c.args.part.now) c.loop-cell.part c.loop-cell.cell-index c.nought.result (omega arith)
    c.loop-cell.invariant c.nought.ensures

pub returns : goal.returns
returns g c =
    let o = g.W.Weight.ops in
    let old = c.args.part.now in
    let all : c.loop-cell.cell-index ≡ length old = omega arith in
    c.loop-cell.invariant ∙ ap (joint (λ (k : ℕ). o.nought) (cells o old)) all ∙ joint_past o (λ (k : ℕ). o.nought) old (λ k l. refl)
