-- The whole weight of a sheet is its tail at 0: passing keeps it, adding multiplies it by the table's total, and rounding divides every tail. Assumes nothing.
use Rattle.std.specs.Prelude.{◌≡◌, ℕ, ◌≤◌, List}
use Rattle.theory.specs.Semiring.{Ops}
use Rattle.theory.specs.Rounded.{up}
use Rattle.analysis.specs.Cells.{tail, passed, total, added}
use Rattle.kinds.specs.Counts.{Count, count_ops}
use Rattle.analysis.specs.Rounding.{rounded_off}
use Rattle.analysis.specs.declared.pair.Pair.{Pair}

abbrev pub PassingKeeps : {K : Type 0} → Ops K → Type 0
PassingKeeps {K} ops = (g : ℕ) (f : ℕ → K) → tail ops (passed ops g f) 0 ≡ tail ops f 0

abbrev pub AddingMultiplies : {K : Type 0} → Ops K → Type 0
AddingMultiplies {K} ops =
    (low : ℕ) (f : ℕ → K) (table : List Pair) → low ≤ 256
    → tail ops (added ops low f table) 0 ≡ ops.product (tail ops f 0) (total ops table)

-- every tail is divided and rounded up
abbrev pub RoundingDivides : Type 0
RoundingDivides =
    (by : ℕ) (f : ℕ → Count) (x : ℕ) → (tail count_ops (rounded_off by f) x).value ≡ up (tail count_ops f x).value by
