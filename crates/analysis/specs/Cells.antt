-- What a sheet holds, and what each operation leaves: cells 0 to 255 are times, and cell 256 is what lies beyond. Assumes nothing.
use Rattle.std.specs.Prelude.{ℕ, zero, suc, ◌+◌, ◌-◌, min, max, cond, List, fold, ◌==◌, nat_le, nat_lt, slice_index_or}
use Rattle.theory.specs.Semiring.{Ops}
use Rattle.analysis.specs.declared.pair.Pair.{Pair}

-- a sheet's cells, as a function of the place
abbrev pub cells : {K : Type 0} → Ops K → List K → ℕ → K
cells ops xs k = slice_index_or xs k ops.nought

-- the sum of n cells from the place a on
abbrev pub span : {K : Type 0} → Ops K → (ℕ → K) → ℕ → ℕ → K
span ops f a zero = ops.nought
span ops f a (suc n) = ops.sum (span ops f a n) (f (a + n))

-- the tail at x: the sum of cells x to 256
abbrev pub tail : {K : Type 0} → Ops K → (ℕ → K) → ℕ → K
tail ops f x = span ops f x (257 - x)

-- what stands at the time k, above 0, once g has passed
abbrev pub later : {K : Type 0} → Ops K → ℕ → (ℕ → K) → ℕ → K
later ops g f k = cond (nat_lt (k + g) 256) (f (k + g)) ops.nought

-- after g ticks cell 0 holds the sum of the times 0 to g, each time above g has fallen by g, and what lies beyond stays
unfoldable pub passed : {K : Type 0} → Ops K → ℕ → (ℕ → K) → ℕ → K
passed ops g f k = cond (nat_lt k 256) (cond (k == 0) (span ops f 0 (min g 255 + 1)) (later ops g f k)) (f k)

-- the sum of h over a list
abbrev pub over : {K X : Type 0} → Ops K → (X → K) → List X → K
over ops h xs = fold (λ a x. ops.sum a (h x)) ops.nought xs

-- the sum of a table's weights
abbrev pub total : {K : Type 0} → Ops K → List Pair → K
total ops table = over ops (λ p. ops.read p.weight) table

-- what one pair brings to the time k from the times at or above low
abbrev pub share : {K : Type 0} → Ops K → ℕ → (ℕ → K) → ℕ → Pair → K
share ops low f k p = cond (nat_le (low + p.time) k) (ops.product (f (k - p.time)) (ops.read p.weight)) ops.nought

-- what a table brings to the time k
abbrev pub arriving : {K : Type 0} → Ops K → ℕ → (ℕ → K) → List Pair → ℕ → K
arriving ops low f table k = over ops (share ops low f k) table

-- the first place at or above low from which the time t leads beyond
abbrev pub first : ℕ → ℕ → ℕ
first low t = max low (256 - t)

-- what one pair brings beyond from the times at or above low
abbrev pub fresh : {K : Type 0} → Ops K → ℕ → (ℕ → K) → Pair → K
fresh ops low f p = ops.product (span ops f (first low p.time) (256 - first low p.time)) (ops.read p.weight)

-- what a table leaves beyond: what comes there from the times, and what was there times the table's total
abbrev pub beyond : {K : Type 0} → Ops K → ℕ → (ℕ → K) → List Pair → K
beyond ops low f table = ops.sum (over ops (fresh ops low f) table) (ops.product (f 256) (total ops table))

-- the table is added to the times at or above low; the times below low are multiplied by its total
unfoldable pub added : {K : Type 0} → Ops K → ℕ → (ℕ → K) → List Pair → ℕ → K
added ops low f table k =
    cond (nat_lt k 256)
    (cond (nat_lt k low) (ops.product (f k) (total ops table)) (arriving ops low f table k))
    (cond (k == 256) (beyond ops low f table) (f k))

-- each cell up to 256 holds its tail
unfoldable pub tailed : {K : Type 0} → Ops K → (ℕ → K) → ℕ → K
tailed ops f k = cond (nat_lt k 257) (tail ops f k) (f k)

-- the cells up to 256 are nought
unfoldable pub cleared : {K : Type 0} → Ops K → (ℕ → K) → ℕ → K
cleared ops f k = cond (nat_lt k 257) ops.nought (f k)
