-- The model's job or refusal that the code's answer stands for, and the book that a job is asked about in.
use Rattle.std.specs.Prelude.{◌≡◌, ℕ, Ok, Err, Result}
use Rattle.book.specs.declared.refusals.Refusal.{Refusal}
use Rattle.board.specs.declared.jobs.asked.Asked.{Asked}
use Rattle.board.specs.Model.{Book}
use Rattle.board.specs.Jobs.{Rule, Job}
use Rattle.board.specs.Found.{job_of}
use Rattle.board.specs.Questions.{question_of}
use Rattle.board.specs.Asked.{question_asked}
use Rattle.book.specs.Refusals.{number}

abbrev pub granted_job : Result Asked Refusal → Result Job ℕ
granted_job (Ok a) = Ok (job_of a.job)
granted_job (Err e) = Err (number e)

-- by every rule, the question is that of its job in the book
abbrev pub AskedIn : Book → Asked → Type 0
AskedIn b a = (rule : Rule) → question_asked rule a ≡ question_of rule b (job_of a.job)
