-- The model of a book: the entries at its sixteen places, its opening table and its rounds; and when it is lawful.
use Rattle.std.specs.Prelude.{◌≡◌, ℕ, zero, suc, ◌+◌, ◌*◌, ◌/◌, ◌%◌, ◌<◌, ◌≤◌, Bool, true, false, cond, ◌&&◌, List, [], ◌∷◌, replicate, Some, None, Option, ◌==◌, nat_le, nat_lt}
use Rattle.analysis.specs.declared.pair.Pair.{Pair}
use Rattle.board.specs.Pairs.{lawful, no_work}

-- what is entered at a place
pub record Entry : Type 0 where
  pub period : ℕ
  pub phase : ℕ
  pub deadline : ℕ
  pub pairs : List Pair

pub record Book : Type 0 where
  pub places : List (Option Entry)
  pub opening : List Pair
  pub rounds : ℕ

-- a new draft: no task, no opening work, one round
abbrev pub new_book : Book
new_book = record { places = replicate 16 None; opening = no_work; rounds = 1 }

-- a period of 1 to 4,096, a phase below it, a deadline of 1 to 254, a time table
abbrev pub entry_lawful : Entry → Bool
entry_lawful e = (nat_le 1 e.period && nat_le e.period 4096) && (nat_lt e.phase e.period && ((nat_le 1 e.deadline && nat_le e.deadline 254) && lawful e.pairs))

abbrev pub all_lawful : List (Option Entry) → Bool
all_lawful [] = true
all_lawful (None ∷ ps) = all_lawful ps
all_lawful (Some e ∷ ps) = entry_lawful e && all_lawful ps

-- each period divides h
abbrev pub divided : List (Option Entry) → ℕ → Bool
divided [] h = true
divided (None ∷ ps) h = divided ps h
divided (Some e ∷ ps) h = h % e.period == 0 && divided ps h

-- the first of n numbers from h on that each period divides, or h + n
unfoldable pub first_divided : List (Option Entry) → ℕ → ℕ → ℕ
first_divided ps zero h = h
first_divided ps (suc n) h = cond (divided ps h) h (first_divided ps n (h + 1))

-- the hyperperiod: the least positive number that each period divides, or 4,097 where that is above 4,096
unfoldable pub hyperperiod : List (Option Entry) → ℕ
hyperperiod ps = first_divided ps 4096 1

-- how many jobs are released in h ticks, where each period divides h
abbrev pub jobs : List (Option Entry) → ℕ → ℕ
jobs [] h = 0
jobs (None ∷ ps) h = jobs ps h
jobs (Some e ∷ ps) h = h / e.period + jobs ps h

-- a hyperperiod of at most 4,096, with at most 64 jobs in it
abbrev pub bounded : List (Option Entry) → Bool
bounded ps = nat_le (hyperperiod ps) 4096 && nat_le (jobs ps (hyperperiod ps)) 64

abbrev pub book_lawful : List (Option Entry) → ℕ → Bool
book_lawful ps rounds = all_lawful ps && (bounded ps && (nat_le 1 rounds && nat_le rounds 8))

-- h is the least positive number that each period divides
pub record Least (ps : List (Option Entry)) (h : ℕ) : Type 0 where
  pub positive : 1 ≤ h
  pub small : h ≤ 4096
  pub common : divided ps h ≡ true
  pub least : (k : ℕ) → 1 ≤ k → k < h → divided ps k ≡ false

-- the tick at which the window ends
abbrev pub window : Book → ℕ
window b = b.rounds * hyperperiod b.places
