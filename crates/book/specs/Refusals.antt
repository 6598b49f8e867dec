-- The number of each refusal, and the number that a call without a value answers: 0 where nothing was refused.
use Rattle.std.specs.Prelude.{ℕ, Ok, Err, Result}
use Rattle.book.specs.declared.refusals.Refusal.{Refusal}
use Rattle.book.specs.declared.refusals.Refusal.TheVariants.{Place, Period, Phase, Deadline, Table, Hyperperiod, Jobs, Empty, Rounds, Sheet, NoJob, Window, TooHeavy}

abbrev pub number : Refusal → ℕ
number Place = 1
number Period = 2
number Phase = 3
number Deadline = 4
number Table = 5
number Hyperperiod = 6
number Jobs = 7
number Empty = 8
number Rounds = 9
number Sheet = 10
number NoJob = 11
number Window = 12
number TooHeavy = 13

abbrev pub answer : {X : Type 0} → Result X Refusal → ℕ
answer (Ok _) = 0
answer (Err e) = number e

-- an answer with its value, or the number of its refusal
abbrev pub told : {X : Type 0} → Result X Refusal → Result X ℕ
told (Ok x) = Ok x
told (Err e) = Err (number e)
