-- The jobs of a book, which of two goes ahead, and the jobs that are counted for one.
use Rattle.std.specs.Prelude.{ℕ, zero, suc, ◌+◌, ◌-◌, ◌*◌, ◌%◌, Bool, cond, ◌&&◌, ◌||◌, List, [], ◌∷◌, ◌++◌, Some, None, Option, ◌==◌, nat_le, nat_lt, slice_index_or}
use Rattle.board.specs.Model.{Entry, Book, window}

-- the rank by place, period, deadline and release
abbrev pub Rule : Type 0
Rule = ℕ → ℕ → ℕ → ℕ → ℕ

pub record Job : Type 0 where
  pub place : ℕ
  pub entry : Entry
  pub release : ℕ

-- the tick at which the deadline falls
abbrev pub due : Job → ℕ
due j = j.release + j.entry.deadline

abbrev pub rank : Rule → Job → ℕ
rank rule j = rule j.place j.entry.period j.entry.deadline j.release

-- k goes ahead of j: by the lower rank, at equal rank by the earlier release, at equal release by the lower place
abbrev pub ahead : Rule → Job → Job → Bool
ahead rule k j =
    nat_lt (rank rule k) (rank rule j)
    || (rank rule k == rank rule j
    && (nat_lt k.release j.release || (k.release == j.release && nat_lt k.place j.place)))

-- whether a task releases a job at tick t: at its phase, and one period after another from there
abbrev pub releases : Entry → ℕ → Bool
releases e t = nat_le e.phase t && (t - e.phase) % e.period == 0

-- the job of the entry at place p that is released at tick t and goes ahead of j, if there is one
abbrev pub ahead_at : Rule → Job → ℕ → Option Entry → ℕ → List Job
ahead_at rule j p None t = []
ahead_at rule j p (Some e) t =
    cond (releases e t && ahead rule (record { place = p; entry = e; release = t }) j)
    (record { place = p; entry = e; release = t } ∷ [])
    []

-- those jobs over a list of places that begins at place p, in the order of the places
abbrev pub ahead_from : Rule → Job → ℕ → List (Option Entry) → ℕ → List Job
ahead_from rule j p [] t = []
ahead_from rule j p (x ∷ xs) t = ahead_at rule j p x t ++ ahead_from rule j (p + 1) xs t

-- the jobs ahead of j that are released in the n ticks from t on: by release, then by place
unfoldable pub ahead_in : Rule → List (Option Entry) → Job → ℕ → ℕ → List Job
ahead_in rule ps j zero t = []
ahead_in rule ps j (suc n) t = ahead_from rule j 0 ps t ++ ahead_in rule ps j n (t + 1)

-- the jobs ahead of j that are released at or before its release
abbrev pub counted_before : Rule → List (Option Entry) → Job → List Job
counted_before rule ps j = ahead_in rule ps j (j.release + 1) 0

-- the jobs ahead of j that are released after its release and before its deadline falls
abbrev pub counted_later : Rule → List (Option Entry) → Job → List Job
counted_later rule ps j = ahead_in rule ps j (j.entry.deadline - 1) (j.release + 1)

-- the counted jobs in their order: by release, then by place, with j last of those released with it
unfoldable pub counted : Rule → List (Option Entry) → Job → List Job
counted rule ps j = counted_before rule ps j ++ (j ∷ counted_later rule ps j)

-- the release of job i of a task
abbrev pub release_of : Entry → ℕ → ℕ
release_of e i = e.phase + i * e.period

-- the job of an entry with that release, where the window has it
abbrev pub job_within : ℕ → ℕ → ℕ → Option Entry → Option Job
job_within end place i None = None
job_within end place i (Some e) =
    cond (nat_lt (release_of e i) end) (Some (record { place = place; entry = e; release = release_of e i })) None

-- job i of the task at a place, if there is one
abbrev pub asked : Book → ℕ → ℕ → Option Job
asked b place i = job_within (window b) place i (slice_index_or b.places place None)
