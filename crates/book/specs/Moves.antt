-- What each edit of a draft answers, as a refusal's number or 0, and what book it leaves.
use Rattle.std.specs.Prelude.{ℕ, Bool, true, false, cond, ◌&&◌, List, Some, None, Option, ◌==◌, nat_le, nat_lt, slice_index_or, slice_set}
use Rattle.analysis.specs.declared.pair.Pair.{Pair}
use Rattle.board.specs.Pairs.{lawful}
use Rattle.board.specs.Model.{Entry, Book, hyperperiod, jobs}

-- what refuses a list of places for its hyperperiod or its jobs
abbrev pub bound_refusal : List (Option Entry) → ℕ
bound_refusal ps = cond (nat_le (hyperperiod ps) 4096) (cond (nat_le (jobs ps (hyperperiod ps)) 64) 0 7) 6

-- what refuses an entry at a place, in the order of the numbers
abbrev pub enter_refusal : Book → ℕ → Entry → ℕ
enter_refusal b place e =
    cond (nat_le place 15)
    (cond (nat_le 1 e.period && nat_le e.period 4096)
    (cond (nat_lt e.phase e.period)
    (cond (nat_le 1 e.deadline && nat_le e.deadline 254)
    (cond (lawful e.pairs) (bound_refusal (slice_set b.places place (Some e))) 5)
    4)
    3)
    2)
    1

abbrev pub with_places : Book → List (Option Entry) → Book
with_places b ps = record { places = ps; opening = b.opening; rounds = b.rounds }

-- the place holds the new entry, and the fifteen others stay
abbrev pub entered : Book → ℕ → Entry → Book
entered b place e = cond (enter_refusal b place e == 0) (with_places b (slice_set b.places place (Some e))) b

abbrev pub filled : {X : Type 0} → Option X → Bool
filled None = false
filled (Some _) = true

abbrev pub withdraw_refusal : Book → ℕ → ℕ
withdraw_refusal b place = cond (nat_le place 15) (cond (filled (slice_index_or b.places place None)) 0 8) 1

abbrev pub withdrawn : Book → ℕ → Book
withdrawn b place = cond (withdraw_refusal b place == 0) (with_places b (slice_set b.places place None)) b

abbrev pub opening_refusal : List Pair → ℕ
opening_refusal pairs = cond (lawful pairs) 0 5

abbrev pub with_opening : Book → List Pair → Book
with_opening b pairs = cond (lawful pairs) (record { places = b.places; opening = pairs; rounds = b.rounds }) b

abbrev pub rounds_refusal : ℕ → ℕ
rounds_refusal n = cond (nat_le 1 n && nat_le n 8) 0 9

abbrev pub with_rounds : Book → ℕ → Book
with_rounds b n = cond (nat_le 1 n && nat_le n 8) (record { places = b.places; opening = b.opening; rounds = n }) b
