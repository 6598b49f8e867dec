-- The model's job that a job of the code stands for, and what is left of the counted jobs from a place of a tick on.
use Rattle.std.specs.Prelude.{◌≡◌, ℕ, zero, suc, ◌+◌, ◌-◌, ◌<◌, ◌≤◌, Bool, true, cond, not, List, [], ◌∷◌, ◌++◌, get_or, drop, Some, None, Option, ◌==◌, nat_lt, slice_index_or}
use Rattle.board.specs.declared.jobs.Job.{Job as Found}
use Rattle.board.specs.Model.{Entry}
use Rattle.board.specs.Places.{entry_of}
use Rattle.board.specs.Jobs.{Rule, Job, due, releases, ahead_from}

abbrev pub job_of : Found → Job
job_of j = record { place = j.place; entry = entry_of j.task; release = j.release }

-- j itself, at the tick of its release
abbrev pub own : Job → ℕ → List Job
own j t = cond (t == j.release) (j ∷ []) []

-- the counted jobs that are released in the n ticks from t on
unfoldable pub counted_in : Rule → List (Option Entry) → Job → ℕ → ℕ → List Job
counted_in rule ps j zero t = []
counted_in rule ps j (suc n) t = ahead_from rule j 0 ps t ++ (own j t ++ counted_in rule ps j n (t + 1))

-- what is left of the counted jobs from a place of a tick on
unfoldable pub left_from : Rule → List (Option Entry) → Job → ℕ → ℕ → List Job
left_from rule ps j t p =
    cond (nat_lt t (due j)) (ahead_from rule j p (drop p ps) t ++ (own j t ++ counted_in rule ps j (due j - (t + 1)) (t + 1))) []

-- the job stands in the book: its task at its place, with a release at its tick, and due within the longest window
pub record Stands (ps : List (Option Entry)) (j : Job) : Type 0 where
  pub place_low : j.place < 16
  pub at_place : get_or ps j.place None ≡ Some j.entry
  pub released : releases j.entry j.release ≡ true
  pub soon : due j ≤ 32768
  pub deadline_low : 1 ≤ j.entry.deadline

-- no job of the entry is released at tick t
abbrev pub quiet : Option Entry → ℕ → Bool
quiet None t = true
quiet (Some e) t = not (releases e t)

-- r is from `from` to `end`, and no job is released from `from` to just before r
pub record Skips (ps : List (Option Entry)) (from end r : ℕ) : Type 0 where
  pub low : from ≤ r
  pub high : r ≤ end
  pub none : (p : ℕ) → p < 16 → (k : ℕ) → from ≤ k → k < r → quiet (slice_index_or ps p None) k ≡ true
