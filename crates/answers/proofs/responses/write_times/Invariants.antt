use Rattle.std.proofs.Common.{◌≡◌, ◌++◌, length, vec_items}
use Rattle.analysis.specs.Cells.{cells}
use Rattle.texts.specs.Texts.{in_turn}
use Rattle.answers.specs.Responses.{time_text}
use Rattle.answers.proofs.responses.write_times.Given as goal

abbrev pub invariant-loop-time : goal.invariant-loop-time
invariant-loop-time g l = vec_items l.out ≡ vec_items l.initial.out ++ in_turn (λ time. time_text g.W.Printable.size g.W.Printable.text time (cells g.W.Weight.ops l.sheet time)) (length l.yielded)
