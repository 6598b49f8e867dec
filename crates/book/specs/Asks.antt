-- What each question on a plan answers, a value or the number of its refusal, and what it leaves in a sheet.
use Rattle.std.specs.Prelude.{ℕ, zero, suc, ◌+◌, ◌*◌, ◌/◌, ◌<◌, ◌≤◌, Bool, true, cond, ◌&&◌, Some, None, Ok, Err, Option, Result, nat_le, nat_lt, slice_index_or}
use Rattle.analysis.specs.Cells.{cleared}
use Rattle.book.specs.declared.lateness.TaskLateness.{TaskLateness}
use Rattle.board.specs.Model.{Entry, Book, hyperperiod, window}
use Rattle.board.specs.Jobs.{Rule, Job, due, release_of, asked}
use Rattle.scenarios.specs.Walks.{rounded_late as late_of_question}
use Rattle.theory.specs.Semiring.{Ops}
use Rattle.scenarios.specs.Questions.{weight_of_all, answer}
use Rattle.board.specs.Questions.{question_of}

-- two sheets that both have 257 cells or more, by their lengths
abbrev pub long : ℕ → ℕ → Bool
long m n = nat_le 257 m && nat_le 257 n

-- the job's deadline falls at or before the end of the window
abbrev pub within : Book → Job → Bool
within b j = nat_le (due j) (window b)

-- the job that is asked for: 11 where there is none, 12 where its deadline falls after the window
abbrev pub granted : Book → Option Job → Result Job ℕ
granted b None = Err 11
granted b (Some j) = cond (within b j) (Ok j) (Err 12)

-- the rounded late weight of a job
unfoldable pub rounded_late : Rule → Book → Job → ℕ
rounded_late rule b j = late_of_question (question_of rule b j)

abbrev pub rounded_of : Rule → Book → Result Job ℕ → Result ℕ ℕ
rounded_of rule b (Ok j) = Ok (rounded_late rule b j)
rounded_of rule b (Err n) = Err n

-- rounded: the late weight of job i of a place; 10 for a short sheet, then 11, then 12
abbrev pub rounded_answer : Rule → Book → ℕ → ℕ → ℕ → ℕ → Result ℕ ℕ
rounded_answer rule b place i m n = cond (long m n) (rounded_of rule b (granted b (asked b place i))) (Err 10)

-- a job whose scenarios weigh less than the kind's top; 13 for a heavier one
abbrev pub light : {K : Type 0} → Ops K → Rule → Book → Result Job ℕ → Result Job ℕ
light ops rule b (Ok j) = cond (ops.top (weight_of_all ops (question_of rule b j))) (Err 13) (Ok j)
light ops rule b (Err n) = Err n

-- response: the job that is answered in a kind; 10 for a short sheet, then 11, then 12, then 13
abbrev pub response_answer : {K : Type 0} → Ops K → Rule → Book → ℕ → ℕ → ℕ → ℕ → Result Job ℕ
response_answer ops rule b place i m n = cond (long m n) (light ops rule b (granted b (asked b place i))) (Err 10)

-- how many jobs of an entry are released in each round
abbrev pub round_jobs : Book → Entry → ℕ
round_jobs b e = hyperperiod b.places / e.period

-- job i of an entry at a place
abbrev pub job_at : ℕ → Entry → ℕ → Job
job_at place e i = record { place = place; entry = e; release = release_of e i }

-- the deadlines of n jobs from job `from` on fall within the window
abbrev pub all_within : Book → ℕ → Entry → ℕ → ℕ → Bool
all_within b place e from zero = true
all_within b place e from (suc n) = all_within b place e from n && within b (job_at place e (from + n))

-- the sum of the rounded late weights of n jobs from job `from` on
abbrev pub late_sum : Rule → Book → ℕ → Entry → ℕ → ℕ → ℕ
late_sum rule b place e from zero = 0
late_sum rule b place e from (suc n) = late_sum rule b place e from n + rounded_late rule b (job_at place e (from + n))

abbrev pub task_of : Rule → Book → ℕ → ℕ → Option Entry → Result TaskLateness ℕ
task_of rule b place round None = Err 11
task_of rule b place round (Some e) =
    cond (nat_lt round b.rounds)
    (cond (all_within b place e (round * round_jobs b e) (round_jobs b e))
    (Ok (record { jobs = round_jobs b e; late = late_sum rule b place e (round * round_jobs b e) (round_jobs b e) }))
    (Err 12))
    (Err 11)

-- task: how many jobs of a place are released in a round, and the sum of their rounded late weights; 10, then 11, then 12
abbrev pub task_answer : Rule → Book → ℕ → ℕ → ℕ → ℕ → Result TaskLateness ℕ
task_answer rule b place round m n = cond (long m n) (task_of rule b place round (slice_index_or b.places place None)) (Err 10)

-- the jobs of an entry that are released in a round are those from job `from` on, n of them
pub record ReleasedIn (b : Book) (e : Entry) (round from n : ℕ) : Type 0 where
  pub inside : (i : ℕ) → from ≤ i → i < from + n → (round * hyperperiod b.places ≤ release_of e i) × (release_of e i < (round + 1) * hyperperiod b.places)
  pub before : (i : ℕ) → i < from → release_of e i < round * hyperperiod b.places
  pub after : (i : ℕ) → from + n ≤ i → (round + 1) * hyperperiod b.places ≤ release_of e i

-- an answered question leaves the first 257 cells nought, and a refused one leaves all cells
abbrev pub swept : {X K : Type 0} → Ops K → Result X ℕ → (ℕ → K) → ℕ → K
swept ops (Ok _) f = cleared ops f
swept ops (Err _) f = f

-- an answered exact question leaves the answer of its job, and a refused one leaves all cells
abbrev pub filled : {K : Type 0} → Ops K → Rule → Book → Result Job ℕ → (ℕ → K) → ℕ → K
filled ops rule b (Ok j) f = answer ops (question_of rule b j) f
filled ops rule b (Err n) f = f

-- whether a question is answered, or the number of its refusal
abbrev pub answered : {X : Type 0} → Result X ℕ → Result (Unit {0}) ℕ
answered (Ok _) = Ok tt
answered (Err n) = Err n
