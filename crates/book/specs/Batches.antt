-- The jobs of one task that a round releases, as the code holds them.
use Rattle.std.specs.Prelude.{◌≡◌, ℕ, ◌*◌, ◌<◌, ◌≤◌, true, Some, None, slice_index_or}
use Rattle.book.specs.declared.batches.Batch.{Batch}
use Rattle.board.specs.Model.{Book}
use Rattle.board.specs.Places.{entry_of}
use Rattle.book.specs.Asks.{round_jobs, all_within}

-- the batch is that of the round at the place, and the deadlines of its jobs fall within the window
pub record IsBatch (b : Book) (place round : ℕ) (x : Batch) : Type 0 where
  pub place_is : x.place ≡ place
  pub at_place : slice_index_or b.places place None ≡ Some (entry_of x.task)
  pub round_low : round < b.rounds
  pub jobs_is : x.jobs ≡ round_jobs b (entry_of x.task)
  pub first_is : x.first ≡ round * round_jobs b (entry_of x.task)
  pub inside : all_within b place (entry_of x.task) (round * round_jobs b (entry_of x.task)) (round_jobs b (entry_of x.task)) ≡ true
  pub jobs_low : 1 ≤ round_jobs b (entry_of x.task)
  pub jobs_high : round_jobs b (entry_of x.task) ≤ 64

-- a batch whose jobs can be asked for one by one
pub record Ready (b : Book) (x : Batch) : Type 0 where
  pub held : slice_index_or b.places x.place None ≡ Some (entry_of x.task)
  pub inside : all_within b x.place (entry_of x.task) x.first x.jobs ≡ true
  pub first_small : x.first ≤ 512
  pub few : x.jobs ≤ 64
