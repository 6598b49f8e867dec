-- The walk over the counted jobs of a job as the code makes it, one after another, over any kind.
use Rattle.std.specs.Prelude.{ℕ, ◌+◌, ◌-◌, cond, List, [], ◌∷◌, Option, ◌==◌, nat_le, nat_lt}
use Rattle.theory.specs.Semiring.{Ops}
use Rattle.kinds.specs.Counts.{count_ops, counted as count_of}
use Rattle.analysis.specs.declared.pair.Pair.{Pair}
use Rattle.analysis.specs.Cells.{tail, passed, added}
use Rattle.scenarios.specs.Walks.{Settling, lone, settled}
use Rattle.board.specs.Model.{Entry}
use Rattle.board.specs.Jobs.{Rule, Job, counted}

-- the last counted release that time has passed to, at first tick 0, and the cells
pub record Walk (K : Type 0) : Type 0 where
  pub last : ℕ
  pub sheet : ℕ → K

-- x at the time 0, and the opening table added
unfoldable pub begun : {K : Type 0} → Ops K → Settling K → K → List Pair → Walk K
begun ops settle x opening = record { last = 0; sheet = settle opening (added ops 0 (lone ops x) opening) }

-- one counted job k, for a job released at a
abbrev pub stepped : {K : Type 0} → Ops K → ℕ → Walk K → Job → Walk K
stepped ops a w k =
    cond (nat_le k.release a)
    (record { last = k.release; sheet = added ops 0 (passed ops (k.release - w.last) w.sheet) k.entry.pairs })
    (record { last = w.last; sheet = added ops (k.release - a + 1) w.sheet k.entry.pairs })

abbrev pub walked : {K : Type 0} → Ops K → Settling K → ℕ → Walk K → List Job → Walk K
walked ops settle a w [] = w
walked ops settle a w (k ∷ ks) =
    walked ops settle a (record { last = (stepped ops a w k).last; sheet = settle k.entry.pairs (stepped ops a w k).sheet }) ks

-- the sheet after the opening table and all counted jobs of j
abbrev pub walked_sheet : {K : Type 0} → Ops K → Settling K → K → Rule → List (Option Entry) → List Pair → Job → ℕ → K
walked_sheet ops settle x rule ps opening j = (walked ops settle j.release (begun ops settle x opening) (counted rule ps j)).sheet

-- the tail after the deadline, in the rounded walk
abbrev pub late_over : Rule → List (Option Entry) → List Pair → Job → ℕ
late_over rule ps opening j = (tail count_ops (walked_sheet count_ops settled (count_of 1048576) rule ps opening j) (j.entry.deadline + 1)).value

-- cells up to the deadline stay, those between are nought, and cell 256 has the tail after the deadline
unfoldable pub gathered_late : {K : Type 0} → Ops K → ℕ → (ℕ → K) → ℕ → K
gathered_late ops deadline f k =
    cond (nat_le k deadline) (f k) (cond (nat_lt k 256) ops.nought (cond (k == 256) (tail ops f (deadline + 1)) (f k)))
