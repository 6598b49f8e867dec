-- Worked examples: books made by edits of a new draft, and the weights and the rounded late weights that their jobs are answered with.
use Rattle.std.specs.Prelude.{◌≡◌, ℕ, zero, suc, ◌+◌, List, [], ◌∷◌, ◌++◌, map, Ok, Err, Result}
use Rattle.analysis.specs.declared.pair.Pair.{Pair}
use Rattle.analysis.specs.Ranks.{table_rank, deadline_rank}
use Rattle.kinds.specs.Counts.{count_ops}
use Rattle.board.specs.Model.{Entry, Book, new_book}
use Rattle.book.specs.Moves.{entered, with_opening, with_rounds}
use Rattle.board.specs.Jobs.{Rule, Job}
use Rattle.book.specs.Asks.{response_answer, filled, rounded_answer}

-- a time table, by its times and their weights
abbrev pub table : List (ℕ × ℕ) → List Pair
table ts = map (λ p. record { time = p.0; weight = p.1 }) ts

abbrev pub task : ℕ → ℕ → ℕ → List (ℕ × ℕ) → Entry
task period phase deadline ts = record { period = period; phase = phase; deadline = deadline; pairs = table ts }

-- the ranks of the rules: by the period, by a table, and by the tick at which the deadline falls
abbrev pub by_period : Rule
by_period place period deadline release = period

abbrev pub by_table : List ℕ → Rule
by_table ranks place period deadline release = table_rank ranks place

abbrev pub by_deadline : Rule
by_deadline place period deadline release = deadline_rank deadline release

-- n cells from k on
abbrev pub cells_from : ℕ → ℕ → List ℕ
cells_from k zero = []
cells_from k (suc n) = k ∷ cells_from (k + 1) n

-- the cells of the responses 0 to d, and cell 256, which has the late weight
abbrev pub upto_and_late : ℕ → List ℕ
upto_and_late d = cells_from 0 (d + 1) ++ (256 ∷ [])

-- what some cells hold of a sheet of counts, nought at first, that an answered question fills; or the number of the refusal
abbrev pub held : Rule → Book → List ℕ → Result Job ℕ → Result (List ℕ) ℕ
held rule b cells (Ok j) = Ok (map (λ k. (filled count_ops rule b (Ok j) (λ _. count_ops.nought) k).value) cells)
held rule b cells (Err n) = Err n

-- what some cells hold after a response was asked in counts, of job i of a place, with sheets of 257 cells
abbrev pub shown : Rule → Book → ℕ → ℕ → List ℕ → Result (List ℕ) ℕ
shown rule b place i cells = held rule b cells (response_answer count_ops rule b place i 257 257)

-- the rounded late weight of job i of a place, with sheets of 257 cells
abbrev pub rounded : Rule → Book → ℕ → ℕ → Result ℕ ℕ
rounded rule b place i = rounded_answer rule b place i 257 257

-- a task alone, at place 0
abbrev pub alone : Entry → Book
alone e = entered new_book 0 e

abbrev pub one_task : Book
one_task = alone (task 4 0 2 ((1, 1) ∷ (3, 1) ∷ []))

-- a task of deadline 6 at place 0, and one of the same period at place 1, of some phase and deadline
abbrev pub two_tasks : ℕ → ℕ → Book
two_tasks phase deadline = entered (alone (task 8 0 6 ((2, 1) ∷ (4, 1) ∷ []))) 1 (task 8 phase deadline ((1, 1) ∷ (3, 1) ∷ []))

-- rank 1 for place 0, and rank 0 for all others
abbrev pub second_ahead : Rule
second_ahead = by_table (1 ∷ [])

pub record WorkedExamples : Type 0 where
  -- of the times 1 and 3 only 1 meets the deadline 2
  pub one : shown by_period one_task 0 0 (upto_and_late 2) ≡ Ok (0 ∷ 1 ∷ 0 ∷ 1 ∷ [])
  -- with two rounds, the second job: the first has ended by tick 4 at either of its times, so each weight is doubled
  pub second_job : shown by_period (with_rounds one_task 2) 0 1 (upto_and_late 2) ≡ Ok (0 ∷ 2 ∷ 0 ∷ 2 ∷ [])
  -- opening work of 3 ticks makes the job late at each of its times
  pub opening_work : shown by_period (with_opening one_task (table ((3, 1) ∷ []))) 0 0 (upto_and_late 2) ≡ Ok (0 ∷ 0 ∷ 0 ∷ 2 ∷ [])
  -- a job that goes ahead is released at tick 3: it delays the time 4, by 1 or 3 ticks, and not the time 2
  pub delayed : shown second_ahead (two_tasks 3 2) 0 0 (upto_and_late 6) ≡ Ok (0 ∷ 0 ∷ 2 ∷ 0 ∷ 0 ∷ 1 ∷ 0 ∷ 1 ∷ [])
  -- released at tick 4, it delays neither
  pub not_delayed : shown second_ahead (two_tasks 4 2) 0 0 (upto_and_late 6) ≡ Ok (0 ∷ 0 ∷ 2 ∷ 0 ∷ 2 ∷ 0 ∷ 0 ∷ 0 ∷ [])
  -- both deadlines fall at tick 6: the job that is released earlier goes ahead, and the other is not counted for it
  pub equal_ranks_earlier : shown by_deadline (two_tasks 3 3) 0 0 (upto_and_late 6) ≡ Ok (0 ∷ 0 ∷ 1 ∷ 0 ∷ 1 ∷ 0 ∷ 0 ∷ 0 ∷ [])
  -- and the job that is released later waits for one tick where the other runs for 4
  pub equal_ranks_later : shown by_deadline (two_tasks 3 3) 1 0 (upto_and_late 3) ≡ Ok (0 ∷ 1 ∷ 1 ∷ 1 ∷ 1 ∷ [])
  -- a third of 1,048,576, rounded up
  pub third : rounded by_period (alone (task 4 0 2 ((1, 2) ∷ (3, 1) ∷ []))) 0 0 ≡ Ok 349526
  -- with the longest deadline, the time 254 meets it, and the time 255 does not
  pub longest_met : shown by_period (alone (task 300 0 254 ((254, 1) ∷ []))) 0 0 (253 ∷ 254 ∷ 256 ∷ []) ≡ Ok (0 ∷ 1 ∷ 0 ∷ [])
  pub longest_missed : shown by_period (alone (task 300 0 254 ((255, 1) ∷ []))) 0 0 (253 ∷ 254 ∷ 256 ∷ []) ≡ Ok (0 ∷ 0 ∷ 1 ∷ [])
