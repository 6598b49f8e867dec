-- A table added to a sheet, and a gap passed before that, are one step of the walk. Assumes nothing.
use Rattle.std.proofs.Common.{◌≡◌, ℕ, ◌+◌, ◌-◌, ◌<◌, ◌≤◌, min, false, cond, eqb, ltb, leb, ◌⊎◌, List, [], ◌∷◌, sym, refl, ap, ◌∙◌, ap₂, inl, inr, arith}
use mathlib.Core.Path.{fun_ext}
use Rattle.std.proofs.lemmas.Bool.{cases_lt, cond-true, cond-false, lt-ltb, le-ltb, le-leb, lt-leb}
use Rattle.std.proofs.lemmas.Bool.Decides.{nat_tests}
use Rattle.theory.specs.Semiring.{Ops, Laws}
use Rattle.theory.specs.Sums.{weigh, mean, cells}
use Rattle.theory.specs.Walk.{Leg, readings, stepped, next, after, from}
use Rattle.theory.proofs.Pushed.{cell_mean, mean_stepped}
use Rattle.theory.proofs.Tails.{mean_swap}
use Rattle.analysis.specs.declared.pair.Pair.{Pair}
use Rattle.analysis.specs.Cells.{over, share, first, added}
use Rattle.analysis.specs.Inner.{excess}
use Rattle.analysis.proofs.Totals.{over_cons, over_product, overdue_is}
use Rattle.scenarios.specs.Questions.{drawn_from}
use Rattle.scenarios.proofs.Bridge.{where_it, where_one, where_none, where_from}

-- below low a state stays; from there on the time is added
abbrev pub moving : ℕ → ℕ → ℕ → ℕ
moving low x t = cond (ltb x low) x (min (x + t) 256)

after_moves : (x t : ℕ) → moving 0 x t ≡ after 0 x t
after_moves x t = grind (arith, nat_tests)

from_moves : (r x t : ℕ) → moving (r + 1) x t ≡ from r x t
from_moves r x t = grind (arith, nat_tests)

-- where a time leads
stays_below : (low x t v : ℕ) → v < low → low ≤ 256 → eqb (moving low x t) v ≡ eqb x v
stays_below low x t v h k = grind (arith, nat_tests)

comes_from : (low x t v : ℕ) → v < 256 → low + t ≤ v → eqb (moving low x t) v ≡ eqb x (v - t)
comes_from low x t v h k = grind (arith, nat_tests)

comes_not : (low x t v : ℕ) → v < 256 → low ≤ v → v < low + t → eqb (moving low x t) v ≡ false
comes_not low x t v h l k = grind (arith, nat_tests)

goes_beyond : (low x t : ℕ) → low ≤ 256 → eqb (moving low x t) 256 ≡ leb (first low t) x
goes_beyond low x t h = grind (arith, nat_tests)

module _ {K : Type 0} {ops : Ops K} {least : K → K → Type 0} (laws : Laws ops least) where
  -- the weight of the cells from which the time t leads to v
  abbrev leading : (ℕ → ℕ → ℕ) → (ℕ → K) → ℕ → ℕ → K
  leading move f v t = where_it laws f (λ x. eqb (move x t) v)

  pub next_by_times : (l : Leg) (f : ℕ → K) (v : ℕ) → next ops 257 l f v ≡ mean ops (readings ops l.table) (leading l.move f v)
  next_by_times l f v =
      let X = readings ops l.table in
      cell_mean laws (stepped ops l.move (cells 257 f) X) v
      ∙ mean_stepped laws l.move (cells 257 f) X (λ z. weigh ops (eqb z v))
      ∙ mean_swap laws (cells 257 f) X (λ x t. weigh ops (eqb (l.move x t) v))

  table_sum : (pairs : List Pair) (h : ℕ → K) → over ops (λ p. ops.product (h p.time) (ops.read p.weight)) pairs ≡ mean ops (readings ops (drawn_from pairs)) h
  table_sum [] h = refl
  table_sum (p ∷ ps) h =
      over_cons laws (λ p. ops.product (h p.time) (ops.read p.weight)) p ps
      ∙ ap₂ ops.sum (laws.product_comm (h p.time) (ops.read p.weight)) (table_sum ps h)

  -- what one pair brings
  abbrev brought : ℕ → (ℕ → K) → ℕ → Pair → K
  brought low f v p = ops.product (leading (moving low) f v p.time) (ops.read p.weight)

  by_pairs : (low : ℕ) (f : ℕ → K) (pairs : List Pair) (v : ℕ)
      → over ops (brought low f v) pairs ≡ next ops 257 (record { move = moving low; table = drawn_from pairs }) f v
  by_pairs low f pairs v =
      table_sum pairs (leading (moving low) f v) ∙ sym (next_by_times (record { move = moving low; table = drawn_from pairs }) f v)

  same_pairs : (pairs : List Pair) (h k : Pair → K) → ((p : Pair) → h p ≡ k p) → over ops h pairs ≡ over ops k pairs
  same_pairs pairs h k e = ap (λ s. over ops s pairs) (fun_ext e)

  added_below : (low : ℕ) (f : ℕ → K) (pairs : List Pair) (v : ℕ) → v < low → low ≤ 256 → added ops low f pairs v ≡ over ops (brought low f v) pairs
  unfolding added
  added_below low f pairs v h k =
      cond-true (ltb v 256) _ _ (lt-ltb v 256 (omega arith)) ∙ cond-true (ltb v low) _ _ (lt-ltb v low h)
      ∙ sym (over_product laws (f v) (λ p. ops.read p.weight) pairs)
      ∙ same_pairs pairs _ _
      (λ p. ap (λ u. ops.product u (ops.read p.weight))
      (sym (where_one laws f (λ x. eqb (moving low x p.time) v) v (omega arith) (λ x. stays_below low x p.time v h k))))

  share_is : (low : ℕ) (f : ℕ → K) (v : ℕ) → v < 256 → low ≤ v → (p : Pair) → share ops low f v p ≡ brought low f v p
  share_is low f v h k p = elim (cases_lt v (low + p.time)) [
    | inl l ↦
        cond-false (leb (low + p.time) v) _ _ (lt-leb (low + p.time) v l)
        ∙ sym (ap (λ u. ops.product u (ops.read p.weight))
        (where_none laws f (λ x. eqb (moving low x p.time) v) (λ x. comes_not low x p.time v h k l))
        ∙ laws.product_nought (ops.read p.weight))
    | inr l ↦
        cond-true (leb (low + p.time) v) _ _ (le-leb (low + p.time) v l)
        ∙ ap (λ u. ops.product u (ops.read p.weight))
        (sym (where_one laws f (λ x. eqb (moving low x p.time) v) (v - p.time) (omega arith) (λ x. comes_from low x p.time v h l)))
  ]

  added_inside : (low : ℕ) (f : ℕ → K) (pairs : List Pair) (v : ℕ) → v < 256 → low ≤ v → added ops low f pairs v ≡ over ops (brought low f v) pairs
  unfolding added
  added_inside low f pairs v h k =
      cond-true (ltb v 256) _ _ (lt-ltb v 256 h) ∙ cond-false (ltb v low) _ _ (le-ltb v low k) ∙ same_pairs pairs _ _ (share_is low f v h k)

  excess_brought : (low : ℕ) (f : ℕ → K) → low ≤ 256 → (p : Pair) → excess ops low f p ≡ brought low f 256 p
  excess_brought low f h p =
      ap (λ u. ops.product u (ops.read p.weight))
      (sym (where_from laws f (λ x. eqb (moving low x p.time) 256) (first low p.time) (λ x. goes_beyond low x p.time h)))

  added_beyond : (low : ℕ) (f : ℕ → K) (pairs : List Pair) → low ≤ 256 → added ops low f pairs 256 ≡ over ops (brought low f 256) pairs
  unfolding added
  added_beyond low f pairs h = sym (overdue_is laws low f pairs h) ∙ same_pairs pairs _ _ (excess_brought low f h)

  added_moving : (low : ℕ) (f : ℕ → K) (pairs : List Pair) (v : ℕ) → low ≤ 256 → v < 257
      → added ops low f pairs v ≡ next ops 257 (record { move = moving low; table = drawn_from pairs }) f v
  added_moving low f pairs v h k = each (cases_lt v 256) (cases_lt v low) ∙ by_pairs low f pairs v
    where
      each : (v < 256) ⊎ (256 ≤ v) → (v < low) ⊎ (low ≤ v) → added ops low f pairs v ≡ over ops (brought low f v) pairs
      each a (inl l) = added_below low f pairs v l h
      each (inl a) (inr l) = added_inside low f pairs v a l
      each (inr a) (inr l) = let e : 256 ≡ v = omega arith in rw (← e) (added_beyond low f pairs h)

  same_move : (m k : ℕ → ℕ → ℕ) (f : ℕ → K) (pairs : List Pair) (v : ℕ) → ((x t : ℕ) → m x t ≡ k x t)
      → next ops 257 (record { move = m; table = drawn_from pairs }) f v ≡ next ops 257 (record { move = k; table = drawn_from pairs }) f v
  same_move m k f pairs v e = ap (λ (m : ℕ → ℕ → ℕ). next ops 257 (record { move = m; table = drawn_from pairs }) f v) (λ i x t. e x t i)

  pub added_is_next : (f : ℕ → K) (pairs : List Pair) (v : ℕ) → v < 257
      → added ops 0 f pairs v ≡ next ops 257 (record { move = after 0; table = drawn_from pairs }) f v
  added_is_next f pairs v h = added_moving 0 f pairs v (omega arith) h ∙ same_move (moving 0) (after 0) f pairs v after_moves

  pub added_from_is_next : (r : ℕ) (f : ℕ → K) (pairs : List Pair) (v : ℕ) → r ≤ 254 → v < 257
      → added ops (r + 1) f pairs v ≡ next ops 257 (record { move = from r; table = drawn_from pairs }) f v
  added_from_is_next r f pairs v l h = added_moving (r + 1) f pairs v (omega arith) h ∙ same_move (moving (r + 1)) (from r) f pairs v (from_moves r)
