-- A sheet of 257 cells at the start of a walk, and after it.
use Rattle.std.proofs.Common.{◌≡◌, ℕ, ◌+◌, ◌-◌, ◌<◌, ◌≤◌, Bool, true, false, cond, ltb, List, ◌++◌, length, get_or, drop, set, sym, refl, ap, ◌∙◌, ⊎_elim, arith}
use Rattle.std.proofs.lemmas.List.{get_or_past, get_or_append_left, get_or-append_right, get_or-drop}
use Rattle.std.proofs.lemmas.Bool.{cases_lt, cases_eq, cond-true, cond-false, eq-eqb, ne_eqb, lt-ltb, le-ltb}
use Rattle.theory.specs.Semiring.{Ops}
use Rattle.analysis.specs.Cells.{cells, cleared, tail, tailed}
use Rattle.analysis.proofs.Steps.{put, cells_set, same_cells}
use Rattle.scenarios.specs.Walks.{lone}

module _ {K : Type 0} (o : Ops K) where
  -- a cleared sheet of 257 cells is nought at every place
  pub cleared_nought : (xs : List K) (k : ℕ) → length xs ≡ 257 → cleared o (cells o xs) k ≡ o.nought
  unfolding cleared
  cleared_nought xs k long =
      ⊎_elim (λ (h : k < 257). cond-true _ _ _ (lt-ltb k 257 h))
      (λ (h : 257 ≤ k). cond-false _ _ _ (le-ltb k 257 h) ∙ get_or_past xs k o.nought (omega arith))
      (cases_lt k 257)

  put_lone : (f : ℕ → K) (x : K) → ((k : ℕ) → f k ≡ o.nought) → (k : ℕ) → put f 0 x k ≡ lone o x k
  put_lone f x none k =
      ⊎_elim
      (λ (e : k ≡ 0). cond-true _ _ _ (eq-eqb k 0 e) ∙ sym (cond-true _ _ _ (eq-eqb k 0 e)))
      (λ (e : k ≡ 0 → ⊥). cond-false _ _ _ (ne_eqb k 0 e) ∙ (none k ∙ sym (cond-false _ _ _ (ne_eqb k 0 e))))
      (cases_eq k 0)

  pub lone_laid : (old xs : List K) (x : K) → length old ≡ 257 → length xs ≡ 257 → cells o xs ≡ cleared o (cells o old) → cells o (set xs 0 x) ≡ lone o x
  lone_laid old xs x long kept e =
      cells_set o xs 0 x (omega arith) ∙ same_cells (put_lone (cells o xs) x (λ k. ap (λ f. f k) e ∙ cleared_nought old k long))

pub tailed_at : {K : Type 0} (o : Ops K) (f : ℕ → K) (k : ℕ) → k < 257 → tailed o f k ≡ tail o f k
unfolding tailed
tailed_at o f k h = cond-true _ _ _ (lt-ltb k 257 h)

-- a sheet whose first 257 cells were written over
module _ {K : Type 0} (o : Ops K) (old new : List K) (long : length new ≡ 257) where
  pub part_below : (k : ℕ) → k < 257 → cells o (new ++ drop 257 old) k ≡ cells o new k
  part_below k h = get_or_append_left new (drop 257 old) o.nought k (omega arith)

  pub part_above : (k : ℕ) → 257 ≤ k → cells o (new ++ drop 257 old) k ≡ cells o old k
  part_above k h =
      let at : 257 + (k - 257) ≡ k = omega arith in
      get_or-append_right new (drop 257 old) 257 k o.nought long h
      ∙ get_or-drop 257 old (k - 257) o.nought
      ∙ ap (λ i. get_or old i o.nought) at

  pub swept_part : ((k : ℕ) → cells o new k ≡ o.nought) → cells o (new ++ drop 257 old) ≡ cleared o (cells o old)
  unfolding cleared
  swept_part none =
      same_cells (λ k.
      ⊎_elim
      (λ (h : k < 257). part_below k h ∙ none k ∙ sym (cond-true _ _ _ (lt-ltb k 257 h)))
      (λ (h : 257 ≤ k). part_above k h ∙ sym (cond-false _ _ _ (le-ltb k 257 h)))
      (cases_lt k 257))

pub cleared_twice : {K : Type 0} (o : Ops K) (f : ℕ → K) → cleared o (cleared o f) ≡ cleared o f
unfolding cleared
cleared_twice o f = same_cells (λ k. cleared_cell (ltb k 257) o.nought (f k))
  where
    cleared_cell : {K : Type 0} (b : Bool) (x y : K) → cond b x (cond b x y) ≡ cond b x y
    cleared_cell true x y = refl
    cleared_cell false x y = refl
