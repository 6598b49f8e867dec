use Rattle.std.proofs.Common.{ap, ◌∙◌, length-take-le, arith}
use Rattle.analysis.specs.Cells.{cells}
use Rattle.analysis.specs.Inner.{joint}
use Rattle.analysis.proofs.Parts.{cells_front}
use Rattle.analysis.proofs.Fronts.{cleared_is}
use Rattle.analysis.proofs.tailing.clear_cells.Goals as goal

pub returns : goal.returns
returns g c =
    let o = g.W.Weight.ops in
    let xs = c.args.sheet.now in
    cells_front o 257 c.erase.new.part xs (omega (arith, length-take-le 257 xs c.requires)) ∙ ap (λ f. joint f (cells o xs) 257) c.erase.ensures ∙ cleared_is o (cells o xs)
