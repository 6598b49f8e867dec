-- What the inner loops over a sheet leave. Assumes nothing.
use Rattle.std.specs.Prelude.{ℕ, ◌+◌, ◌-◌, cond, List, nat_lt}
use Rattle.theory.specs.Semiring.{Ops}
use Rattle.analysis.specs.Cells.{span, over, first}
use Rattle.analysis.specs.declared.pair.Pair.{Pair}

-- f below the place i, and h from there on
abbrev pub joint : {K : Type 0} → (ℕ → K) → (ℕ → K) → ℕ → ℕ → K
joint f h i k = cond (nat_lt k i) (f k) (h k)

-- what one pair brings beyond, from the times at or above low and from beyond
abbrev pub excess : {K : Type 0} → Ops K → ℕ → (ℕ → K) → Pair → K
excess ops low f p = ops.product (span ops f (first low p.time) (257 - first low p.time)) (ops.read p.weight)

-- what a table brings beyond
abbrev pub overdue : {K : Type 0} → Ops K → ℕ → (ℕ → K) → List Pair → K
overdue ops low f table = over ops (excess ops low f) table

-- what one pair brings to the last of n places or past it
abbrev pub carried_past : {K : Type 0} → Ops K → ℕ → (ℕ → K) → Pair → K
carried_past ops n f p = ops.product (span ops f (n - (p.time + 1)) (n - (n - (p.time + 1)))) (ops.read p.weight)

-- what a table brings to the last of n places or past it
abbrev pub overrun_past : {K : Type 0} → Ops K → ℕ → (ℕ → K) → List Pair → K
overrun_past ops n f table = over ops (carried_past ops n f) table

-- each of n cells holds the sum of the cells from it to the last
abbrev pub tails_to : {K : Type 0} → Ops K → ℕ → (ℕ → K) → ℕ → K
tails_to ops n f k = span ops f k (n - k)

-- the cells below low are multiplied
abbrev pub scaled : {K : Type 0} → Ops K → ℕ → K → (ℕ → K) → ℕ → K
scaled ops low by f = joint (λ k. ops.product (f k) by) f low

-- each cell g places lower
unfoldable pub fallen : {K : Type 0} → ℕ → (ℕ → K) → ℕ → K
fallen g f k = f (k + g)
