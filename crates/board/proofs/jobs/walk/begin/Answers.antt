use Rattle.std.proofs.Common.{◌≡◌, length, ap, ◌∙◌, arith}
use Rattle.analysis.specs.Cells.{added}
use Rattle.board.proofs.Sheets.{lone_laid}
use Rattle.board.proofs.jobs.walk.begin.Goals as goal

pub returns : goal.returns
returns g c =
    let o = g.W.Weight.ops in
    let long : length c.clear.new.sheet ≡ 257 = omega arith in
    c.in_ok-add.ensures.1
    ∙ ap (λ f. added o 0 f c.args.opening.now) (lone_laid o c.args.sheet.now c.clear.new.sheet c.args.x c.requires long c.in_ok-clear.ensures.1)
