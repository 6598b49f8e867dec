-- What is left of the counted jobs of a job that is asked about, where a walk over them stands.
use Rattle.std.specs.Prelude.{ℕ, ◌+◌, ◌-◌, ◌*◌, List}
use Rattle.board.specs.declared.jobs.CountedJobs.{CountedJobs}
use Rattle.board.specs.Places.{places}
use Rattle.board.specs.Jobs.{Rule, Job, due}
use Rattle.board.specs.Found.{job_of, left_from}

module _ {R : Type 0} where
  abbrev pub left : Rule → CountedJobs R → List Job
  left rule c = left_from rule (places c.asked.now.entries) (job_of c.asked.now.job) c.tick c.place

  -- how many slots, seventeen to a tick, are before it
  abbrev pub slots : CountedJobs R → ℕ
  slots c = (due (job_of c.asked.now.job) - c.tick) * 17 + (16 - c.place)
