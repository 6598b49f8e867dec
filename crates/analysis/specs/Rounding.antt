-- A sheet of counts whose tails are divided and rounded up: each cell is the difference of its rounded tail and the next. Assumes nothing.
use Rattle.std.specs.Prelude.{ℕ, ◌+◌, ◌-◌, cond, nat_lt}
use Rattle.theory.specs.Rounded.{up}
use Rattle.kinds.specs.Counts.{Count, counted, count_ops}
use Rattle.analysis.specs.Cells.{tail}

-- the difference of two neighbours, each divided and rounded up
abbrev pub lessened : ℕ → (ℕ → Count) → ℕ → Count
lessened by f k = counted (up (f k).value by - up (f (k + 1)).value by)

unfoldable pub rounded_off : ℕ → (ℕ → Count) → ℕ → Count
rounded_off by f k = cond (nat_lt k 257) (lessened by (tail count_ops f) k) (f k)
