use Rattle.std.proofs.Common.{◌≡◌, ◌+◌, ◌-◌, length, ap, ◌∙◌, arith, refl}
use Rattle.analysis.specs.Cells.{cells}
use Rattle.analysis.proofs.Fronts.{fallen_is}
use Rattle.analysis.proofs.passing.fall.Goals as goal

pub returns : goal.returns
returns g c =
    let o = g.W.Weight.ops in
    let xs = c.args.part.now in
    let n = c.args.g in
    let cs = c.copy_within.new.self in
    let a = length xs - n in
    fallen_is o xs cs c.erase.new.part n a (length cs - a) c.requires refl refl c.copy_within.ensures.len (omega arith) c.erase.ensures
    (λ k l. c.copy_within.ensures.by_index.0 k o.nought (omega arith) (omega arith) ∙ ap (λ j. cells o xs (n + j)) (let at : k - 0 ≡ k = omega arith in at))
