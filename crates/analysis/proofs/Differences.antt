-- The cells that rounded tails leave. Assumes nothing.
use Rattle.std.proofs.Common.{◌≡◌, ℕ, ◌+◌, ◌-◌, ◌<◌, ◌≤◌, ltb, List, length, ap, ◌∙◌, ap₂, arith}
use Rattle.std.proofs.lemmas.List.{get_or_past}
use Rattle.std.proofs.lemmas.Bool.{cond-true, lt-ltb}
use Rattle.theory.specs.Rounded.{up}
use Rattle.analysis.specs.Cells.{cells, tail}
use Rattle.kinds.specs.Counts.{Count, counted, count_ops}
use Rattle.analysis.specs.Rounding.{lessened, rounded_off}

module _ (by : ℕ) (h : ℕ → Count) where
  pub rounded_at : (k : ℕ) → k < 257 → rounded_off by h k ≡ lessened by (tail count_ops h) k
  unfolding rounded_off
  rounded_at k l = cond-true (ltb k 257) _ _ (lt-ltb k 257 l)

-- past the last cell there is no difference
pub lessened_past : (by : ℕ) (xs : List Count) (k : ℕ) → length xs ≤ k → lessened by (cells count_ops xs) k ≡ counted 0
lessened_past by xs k l =
    ap₂ (λ (a b : Count). counted (up a.value by - up b.value by)) (get_or_past xs k (counted 0) l) (get_or_past xs (k + 1) (counted 0) (omega arith))
    ∙ ap counted (let none : up 0 by - up 0 by ≡ 0 = omega arith in none)
