use Rattle.std.proofs.Common.{◌≡◌, ◌+◌, ◌-◌, length, drop, ap, ◌∙◌, arith}
use Rattle.std.proofs.lemmas.List.{length-drop}
use Rattle.analysis.specs.Cells.{cells, span}
use Rattle.board.proofs.Gathered.{gathered_part}
use Rattle.board.proofs.jobs.exact.gather_late.Goals as goal

pub returns : goal.returns
returns g c =
    let o = g.W.Weight.ops in
    let old = c.args.sheet.now in
    let d = c.args.deadline in
    let after = c.loop-cell.after in
    let past = drop (length old - (d + 1)) (drop (d + 1) old) in
    let rest : length after ≡ 257 - (d + 1) = omega arith in
    let all : c.loop-cell.cell-index ≡ 257 - (d + 1) = omega arith in
    let end : length past ≡ 0 = omega (arith, length-drop (length old - (d + 1)) (drop (d + 1) old), length-drop (d + 1) old) in
    gathered_part o old after past d c.loop-cell.late c.requires.0 c.requires.1 rest end (λ k h. c.loop-cell.invariant.1 k (omega arith)) (c.loop-cell.invariant.0 ∙ ap (span o (cells o old) (d + 1)) all)
