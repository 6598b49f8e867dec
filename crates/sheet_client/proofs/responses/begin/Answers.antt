use Rattle.std.proofs.Common.{◌∙◌, ap₂, arith}
use Rattle.sheet_client.specs.Responses.{begun}
use Rattle.analysis.proofs.Steps.{put, cells_set}
use Rattle.sheet_client.proofs.responses.begin.Goals as goal

pub returns : goal.returns
unfolding begun
returns g c =
    let o = g.W.Weight.ops in
    let done = c.in_ok-clear.ensures in
    (done.0, cells_set o c.clear.new.sheet 0 c.unit.result (omega (arith, done.0)) ∙ ap₂ (λ f y. put f 0 y) done.1 c.unit.ensures)
