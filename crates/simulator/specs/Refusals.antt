-- The number of each refusal, and the number that a call answers: 0 where nothing was refused.
use Rattle.std.specs.Prelude.{ℕ, Ok, Err, Result}
use Rattle.simulator.specs.declared.refusals.SimRefusal.{SimRefusal}
use Rattle.simulator.specs.declared.refusals.SimRefusal.TheVariants.{Place, Period, Phase, Deadline, Table, Hyperperiod, Jobs, Empty, Rounds, Cells, NoJob, Window, TooHeavy}

abbrev pub number : SimRefusal → ℕ
number Place = 1
number Period = 2
number Phase = 3
number Deadline = 4
number Table = 5
number Hyperperiod = 6
number Jobs = 7
number Empty = 8
number Rounds = 9
number Cells = 10
number NoJob = 11
number Window = 12
number TooHeavy = 13

abbrev pub answer : {X : Type 0} → Result X SimRefusal → ℕ
answer (Ok _) = 0
answer (Err refusal) = number refusal
