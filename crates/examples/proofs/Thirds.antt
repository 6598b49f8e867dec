-- The rounded late weight of a job, computed along the legs of its walk.
use Rattle.std.proofs.Common.{◌≡◌, ℕ, ◌+◌, ◌^◌, [], ◌∷◌, Ok, refl, ap, ◌∙◌, lit<, lit≤}
use Rattle.theory.specs.Sums.{first}
use Rattle.theory.specs.Rounded.{up, rounded_start}
use Rattle.theory.specs.Rounded.{rounded as rounded_walk}
use Rattle.scenarios.specs.Questions.{Question, drawn_from}
use Rattle.scenarios.specs.Walks.{legs, rounded_late as late_of_question}
use Rattle.scenarios.specs.Theorems.{Sound}
use Rattle.scenarios.proofs.RoundedWalk.{rounded_is_walk}
use Rattle.board.specs.Model.{Entry, Book, hyperperiod, first_divided}
use Rattle.board.specs.Jobs.{Job, ahead_in}
use Rattle.board.specs.Questions.{question_of}
use Rattle.book.specs.Asks.{rounded_late}
use Rattle.board.proofs.Sound.{sound_question}
use Rattle.examples.specs.Worked.{task, alone, by_period, rounded}

late_by_legs : (q : Question) → Sound q → late_of_question q ≡ rounded_walk (legs q) (rounded_start (2 ^ 20) (drawn_from q.opening)) (q.deadline + 1)
unfolding late_of_question
late_by_legs q sound = ap (λ (R : ℕ → ℕ). R (q.deadline + 1)) (rounded_is_walk q sound)

abbrev entry : Entry
entry = task 4 0 2 ((1, 2) ∷ (3, 1) ∷ [])

abbrev thirds : Book
thirds = alone entry

abbrev job : Job
job = record { place = 0; entry = entry; release = 0 }

sound : Sound (question_of by_period thirds job)
unfolding hyperperiod first_divided
sound =
    sound_question by_period thirds.places thirds.opening job refl refl
    (record { place_low = lit< tt; at_place = refl; released = refl; soon = lit≤ tt; deadline_low = lit≤ tt })

late : rounded_late by_period thirds job ≡ 349526
unfolding rounded_late hyperperiod first_divided ahead_in legs up first
late = late_by_legs (question_of by_period thirds job) sound ∙ refl

pub third : rounded by_period thirds 0 0 ≡ Ok 349526
unfolding hyperperiod first_divided
third = ap Ok late
