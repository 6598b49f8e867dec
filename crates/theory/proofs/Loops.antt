-- For code that fills a sheet: one cell more, one pair more, one old state more. Assumes nothing.
use Rattle.std.proofs.Common.{◌≡◌, ℕ, suc, Bool, true, false, cond, eqb, List, [], ◌∷◌, ◌++◌, map, ap, ◌∙◌}
use Rattle.std.proofs.lemmas.List.Elements.{filter-append}
use Rattle.theory.specs.Semiring.{Ops, Laws}
use Rattle.theory.specs.Sums.{over, cell, down, cells}
use Rattle.theory.specs.Walk.{stepped}
use Rattle.theory.proofs.Sums.{nought_sum, over_append}

module _ {K : Type 0} {ops : Ops K} {least : K → K → Type 0} (laws : Laws ops least) where
  pub cell_append : (S T : List (ℕ × K)) (v : ℕ) → cell ops (S ++ T) v ≡ ops.sum (cell ops S v) (cell ops T v)
  cell_append S T v = ap (λ zs. over ops zs (λ p. p.1)) (filter-append (λ p. eqb p.0 v) S T) ∙ over_append laws _ _ (λ p. p.1)

  -- the write of an inner turn: cell y takes c more, the others stay
  pub cell_push : (S : List (ℕ × K)) (y : ℕ) (c : K) (v : ℕ)
      → cell ops (S ++ ((y, c) ∷ [])) v ≡ cond (eqb y v) (ops.sum (cell ops S v) c) (cell ops S v)
  cell_push S y c v = cell_append S ((y, c) ∷ []) v ∙ by (eqb y v)
    where
      by : (b : Bool) → ops.sum (cell ops S v) (over {A = ℕ × K} ops (cond b ((y, c) ∷ []) []) (λ p. p.1)) ≡ cond b (ops.sum (cell ops S v) c) (cell ops S v)
      by true = ap (ops.sum (cell ops S v)) (nought_sum laws c)
      by false = nought_sum laws (cell ops S v)

  -- an outer turn: the old state x with every pair
  pub cell_turn : (move : ℕ → ℕ → ℕ) (x : ℕ) (s : ℕ → K) (X : List (ℕ × K)) (v : ℕ)
      → cell ops (stepped ops move (cells (suc x) s) X) v
      ≡ ops.sum (cell ops (stepped ops move (cells x s) X) v) (cell ops (map (λ q. (move x q.0, ops.product (s x) q.1)) X) v)
  unfolding down
  cell_turn move x s X v = cell_append _ (stepped ops move (cells x s) X) v ∙ laws.sum_comm _ _
