-- Lemmas on the pairs of a table, taken from the front.
use Rattle.std.proofs.Common.{◌≡◌, ℕ, ◌+◌, ◌<◌, ◌≤◌, min, Bool, true, false, cond, List, [], ◌∷◌, length, get_or, drop, sym, ◌∙◌, add-one, arith, drop-cons}
use Rattle.std.specs.List.{fold}
use lib.Seq.{drop-length}
use Rattle.simulator.specs.declared.tables.SimPair.{SimPair}
use Rattle.simulator.specs.Tables.{total, fits, rising}

-- what a list reads as past its end
abbrev pub none : SimPair
none = record { time = 0; weight = 0 }

-- the pairs from i on are pair i and those from i + 1 on
pub rising_step :
    (least i : ℕ) (pairs : List SimPair)
    → i < length pairs
    → rising least (drop i pairs)
    ≡ cond (fits least (get_or pairs i none)) (rising ((get_or pairs i none).time + 1) (drop (i + 1) pairs)) false
rising_step least i pairs h = rw (add-one i, drop-cons pairs i none h)

-- a pair that fits is taken from the front
pub rising_on :
    (least i : ℕ) (pairs : List SimPair) (all : Bool)
    → i < length pairs
    → fits least (get_or pairs i none) ≡ true
    → rising least (drop i pairs) ≡ all
    → rising ((get_or pairs i none).time + 1) (drop (i + 1) pairs) ≡ all
rising_on least i pairs all h fit e = rw fit at (sym (rising_step least i pairs h) ∙ e)

-- a pair that does not fit decides
pub rising_stops :
    (least i : ℕ) (pairs : List SimPair) (all : Bool)
    → i < length pairs
    → fits least (get_or pairs i none) ≡ false
    → rising least (drop i pairs) ≡ all
    → false ≡ all
rising_stops least i pairs all h fit e = rw fit at (sym (rising_step least i pairs h) ∙ e)

-- with no pair left all have fitted
pub rising_ends :
    (least i : ℕ) (pairs : List SimPair) (all : Bool)
    → i ≡ length pairs
    → rising least (drop i pairs) ≡ all
    → true ≡ all
rising_ends least i pairs all h e = rw (h, drop-length pairs) at e

-- weights that are added to a sum which stops at the top add up to what the whole sum stops at
pub total_fold :
    (sum : ℕ) (pairs : List SimPair) (top : ℕ)
    → sum ≤ top
    → fold (λ (s : ℕ) (pair : SimPair). min (s + pair.weight) top) sum pairs ≡ min (sum + total pairs) top
total_fold sum [] top low = omega (arith, low)
total_fold sum (pair ∷ pairs) top low =
    let more : min (sum + pair.weight) top ≤ top = omega arith in
    let rest : fold (λ (s : ℕ) (p : SimPair). min (s + p.weight) top) (min (sum + pair.weight) top) pairs ≡ min (min (sum + pair.weight) top + total pairs) top = total_fold (min (sum + pair.weight) top) pairs top more in
    rest ∙ omega arith

-- weights that are added from nought
pub total_folds :
    (pairs : List SimPair) (top : ℕ)
    → fold (λ (s : ℕ) (pair : SimPair). min (s + pair.weight) top) 0 pairs ≡ min (total pairs) top
total_folds pairs top = total_fold 0 pairs top (omega arith) ∙ omega arith
