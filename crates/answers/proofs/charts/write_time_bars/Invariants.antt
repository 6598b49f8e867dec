use Rattle.std.proofs.Common.{◌≡◌, ◌++◌, length, vec_items}
use Rattle.analysis.specs.Cells.{cells}
use Rattle.texts.specs.Texts.{in_turn}
use Rattle.answers.specs.Charts.{time_bar}
use Rattle.answers.proofs.charts.write_time_bars.Given as goal

abbrev pub invariant-loop-time : goal.invariant-loop-time
invariant-loop-time g l = vec_items l.out ≡ vec_items l.initial.out ++ in_turn (λ time. time_bar g.W.Printable.size l.most time (cells g.W.Weight.ops l.sheet time)) (length l.yielded)
