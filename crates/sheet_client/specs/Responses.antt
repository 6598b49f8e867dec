-- The response of a job that waits for another: the first job's work, less the ticks between the releases, and the second job's work. Assumes nothing.
use Rattle.std.specs.Prelude.{ℕ, cond, List, ◌==◌}
use Rattle.kinds.specs.Semiring.{Ops}
use Rattle.analysis.specs.Cells.{cleared, passed, added}
use Rattle.analysis.specs.declared.pair.Pair.{Pair}

-- no work is present, with the weight of the unit
unfoldable pub begun : {K : Type 0} → Ops K → (ℕ → K) → ℕ → K
begun ops f k = cond (k == 0) ops.unit (cleared ops f k)

abbrev pub responded : {K : Type 0} → Ops K → List Pair → ℕ → List Pair → (ℕ → K) → ℕ → K
responded ops first gap second f = added ops 0 (passed ops gap (added ops 0 (begun ops f) first)) second
