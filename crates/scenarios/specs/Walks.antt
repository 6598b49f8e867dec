-- The walk over the counted jobs on a sheet, exact and over any kind, and rounded and in counts.
use Rattle.std.specs.Prelude.{ℕ, ◌+◌, ◌-◌, cond, List, [], ◌∷◌, ◌++◌, ◌==◌}
use Rattle.theory.specs.Semiring.{Ops}
use Rattle.theory.specs.Walk.{Leg, after, from}
use Rattle.analysis.specs.declared.pair.Pair.{Pair}
use Rattle.kinds.specs.Counts.{Count, count_ops, counted as count_of}
use Rattle.analysis.specs.Cells.{tail, total, passed, added}
use Rattle.analysis.specs.Rounding.{rounded_off}
use Rattle.scenarios.specs.Questions.{Counted, Question, upto, drawn_from}

-- x at the time 0, and nought elsewhere
abbrev pub lone : {K : Type 0} → Ops K → K → ℕ → K
lone ops x k = cond (k == 0) x ops.nought

-- what is done to a sheet after each table is added: nothing in the exact walk
abbrev pub Settling : Type 0 → Type 0
Settling K = List Pair → (ℕ → K) → ℕ → K

abbrev pub unsettled : {K : Type 0} → Settling K
unsettled table f = f

-- in the rounded walk every tail is divided by the table's total, rounded up
abbrev pub settled : Settling Count
settled table f = rounded_off (total count_ops table).value f

-- the jobs up to the asked one: the gap since the last release passes, and the table is added
abbrev pub walked_upto : {K : Type 0} → Ops K → Settling K → ℕ → (ℕ → K) → List Counted → ℕ → K
walked_upto ops settle last f [] = f
walked_upto ops settle last f (k ∷ ks) =
    walked_upto ops settle k.release (settle k.pairs (added ops 0 (passed ops (k.release - last) f) k.pairs)) ks

-- the later jobs: the table is added from the release minus a
abbrev pub walked_later : {K : Type 0} → Ops K → Settling K → ℕ → (ℕ → K) → List Counted → ℕ → K
walked_later ops settle a f [] = f
walked_later ops settle a f (k ∷ ks) = walked_later ops settle a (settle k.pairs (added ops (k.release - a + 1) f k.pairs)) ks

-- from x at the time 0, the opening table and all counted jobs
unfoldable pub walked : {K : Type 0} → Ops K → Settling K → K → Question → ℕ → K
walked ops settle x q =
    walked_later ops settle q.job.release
    (walked_upto ops settle 0 (settle q.opening (added ops 0 (lone ops x) q.opening)) (upto q))
    q.later

-- the exact sheet, over any kind, and the rounded sheet, in counts from 1,048,576
abbrev pub exact_sheet : {K : Type 0} → Ops K → Question → ℕ → K
exact_sheet ops q = walked ops unsettled ops.unit q

abbrev pub rounded_sheet : Question → ℕ → Count
rounded_sheet q = walked count_ops settled (count_of 1048576) q

-- the rounded late weight: the tail after the deadline
unfoldable pub rounded_late : Question → ℕ
rounded_late q = (tail count_ops (rounded_sheet q) (q.deadline + 1)).value

-- the legs of the walk, as moves of a state with a table each
abbrev pub legs_upto : ℕ → List Counted → List Leg
legs_upto last [] = []
legs_upto last (k ∷ ks) = record { move = after (k.release - last); table = drawn_from k.pairs } ∷ legs_upto k.release ks

abbrev pub legs_later : ℕ → List Counted → List Leg
legs_later a [] = []
legs_later a (k ∷ ks) = record { move = from (k.release - a); table = drawn_from k.pairs } ∷ legs_later a ks

unfoldable pub legs : Question → List Leg
legs q = legs_upto 0 (upto q) ++ legs_later q.job.release q.later
