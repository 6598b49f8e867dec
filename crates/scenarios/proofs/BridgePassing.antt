-- A gap that passes before a table is added, and the opening table. Assumes nothing.
use Rattle.std.proofs.Common.{◌≡◌, ℕ, zero, suc, ◌+◌, ◌-◌, ◌<◌, ◌≤◌, min, Bool, true, false, cond, eqb, ltb, leb, ◌⊎◌, List, [], ◌∷◌, map, sym, refl, ap, ◌∙◌, ap₂, inl, inr, arith}
use Rattle.std.proofs.lemmas.Bool.{cases_lt, cond-true, cond-false, lt-ltb, le-ltb, ne_eqb}
use Rattle.std.proofs.lemmas.Bool.Decides.{nat_tests}
use Rattle.theory.specs.Semiring.{Ops, Laws}
use Rattle.theory.specs.Sums.{weigh, mean, cell, Below, down, cells}
use Rattle.theory.specs.Walk.{readings, next, after}
use Rattle.theory.proofs.Sums.{over_same, over_map}
use Rattle.theory.proofs.Pushed.{below_cells, below_readings, cell_mean, mean_cells, mean_gathered, point}
use Rattle.theory.proofs.Tails.{mean_same}
use Rattle.analysis.specs.declared.pair.Pair.{Pair}
use Rattle.analysis.specs.Cells.{later, passed, added}
use Rattle.scenarios.specs.Questions.{drawn_from}
use Rattle.scenarios.specs.Walks.{lone}
use Rattle.scenarios.specs.Theorems.{Small}
use Rattle.scenarios.proofs.Bridge.{where_it, where_one, where_none, where_below}
use Rattle.scenarios.proofs.BridgeAdding.{next_by_times, added_is_next}

-- from the time 0 a time below 256 leads to itself
pub from_none : (t : ℕ) → t < 256 → after 0 0 t ≡ t
from_none t l = grind (arith, nat_tests)

-- where g ticks lead: what lies beyond stays
abbrev passing : ℕ → ℕ → ℕ
passing g x = cond (leb 256 x) x (x - g)

after_passing : (g x t : ℕ) → after 0 (passing g x) t ≡ after g x t
after_passing g x t = grind (arith, nat_tests)

passing_stays : (g x : ℕ) → x < 257 → passing g x < 257
passing_stays g x h = grind (arith, nat_tests)

passing_none : (g x : ℕ) → eqb (passing g x) 0 ≡ ltb x (min g 255 + 1)
passing_none g x = grind (arith, nat_tests)

passing_inside : (g x v : ℕ) → 0 < v → v + g < 256 → eqb (passing g x) v ≡ eqb x (v + g)
passing_inside g x v h k = grind (arith, nat_tests)

passing_empty : (g x v : ℕ) → 0 < v → v < 256 → 256 ≤ v + g → eqb (passing g x) v ≡ false
passing_empty g x v h l k = grind (arith, nat_tests)

passing_beyond : (g x : ℕ) → eqb (passing g x) 256 ≡ eqb x 256
passing_beyond g x = grind (arith, nat_tests)

-- sheets that agree up to cell 256 make the same spread
pub cells_same : {K : Type 0} (n : ℕ) (s u : ℕ → K) → ((x : ℕ) → x < n → s x ≡ u x) → cells n s ≡ cells n u
unfolding down
cells_same zero s u e = refl
cells_same (suc n) s u e = ap₂ (λ c cs. (n, c) ∷ cs) (e n (omega arith)) (cells_same n s u (λ x h. e x (omega arith)))

below_passing : {K : Type 0} (g : ℕ) (S : List (ℕ × K)) → Below 257 S → Below 257 (map (λ p. (passing g p.0, p.1)) S)
below_passing g [] h = tt
below_passing g (p ∷ S) h = (passing_stays g p.0 h.0, below_passing g S h.1)

pub below_small : (pairs : List Pair) → Small pairs → Below 256 (drawn_from pairs)
below_small [] h = tt
below_small (p ∷ ps) h = (h.0, below_small ps h.1)

module _ {K : Type 0} {ops : Ops K} {least : K → K → Type 0} (laws : Laws ops least) where
  passed_later : (g : ℕ) (f : ℕ → K) (v : ℕ) → 0 < v → v < 256 → (v + g < 256) ⊎ (256 ≤ v + g)
      → later ops g f v ≡ where_it laws f (λ x. eqb (passing g x) v)
  passed_later g f v p h (inl l) =
      cond-true (ltb (v + g) 256) _ _ (lt-ltb (v + g) 256 l)
      ∙ sym (where_one laws f (λ x. eqb (passing g x) v) (v + g) (omega arith) (λ x. passing_inside g x v p l))
  passed_later g f v p h (inr l) =
      cond-false (ltb (v + g) 256) _ _ (le-ltb (v + g) 256 l)
      ∙ sym (where_none laws f (λ x. eqb (passing g x) v) (λ x. passing_empty g x v p h l))

  passed_first : (g : ℕ) (f : ℕ → K) → passed ops g f 0 ≡ where_it laws f (λ x. eqb (passing g x) 0)
  unfolding passed
  passed_first g f = sym (where_below laws f (λ x. eqb (passing g x) 0) (min g 255 + 1) (omega arith) (passing_none g))

  passed_beyond : (g : ℕ) (f : ℕ → K) → passed ops g f 256 ≡ where_it laws f (λ x. eqb (passing g x) 256)
  unfolding passed
  passed_beyond g f = sym (where_one laws f (λ x. eqb (passing g x) 256) 256 (omega arith) (passing_beyond g))

  passed_inside : (g : ℕ) (f : ℕ → K) (v : ℕ) → 0 < v → v < 256 → passed ops g f v ≡ where_it laws f (λ x. eqb (passing g x) v)
  unfolding passed
  passed_inside g f v p h =
      cond-true (ltb v 256) _ _ (lt-ltb v 256 h) ∙ cond-false (eqb v 0) _ _ (ne_eqb v 0 (λ e. omega arith))
      ∙ passed_later g f v p h (cases_lt (v + g) 256)

  passed_is : (g : ℕ) (f : ℕ → K) (v : ℕ) → v < 257 → passed ops g f v ≡ where_it laws f (λ x. eqb (passing g x) v)
  passed_is g f v h = each (cases_lt 0 v) (cases_lt v 256)
    where
      each : (0 < v) ⊎ (v ≤ 0) → (v < 256) ⊎ (256 ≤ v) → passed ops g f v ≡ where_it laws f (λ x. eqb (passing g x) v)
      each (inl p) (inl l) = passed_inside g f v p l
      each (inl p) (inr l) = let e : 256 ≡ v = omega arith in rw (← e) (passed_beyond g f)
      each (inr p) l = let e : 0 ≡ v = omega arith in rw (← e) (passed_first g f)

  -- what a function of the state comes to once g ticks have passed
  passed_mean : (g : ℕ) (f h : ℕ → K) → mean ops (cells 257 (passed ops g f)) h ≡ mean ops (cells 257 f) (λ x. h (passing g x))
  passed_mean g f h =
      let S : List (ℕ × K) = map (λ p. (passing g p.0, p.1)) (cells 257 f) in
      ap (λ C. mean ops C h)
      (cells_same 257 (passed ops g f) (λ v. cell ops S v)
      (λ v l. passed_is g f v l
      ∙ sym (cell_mean laws S v ∙ over_map ops (cells 257 f) (λ p. (passing g p.0, p.1)) (λ p. ops.product p.1 (weigh ops (eqb p.0 v))))))
      ∙ mean_gathered laws 257 S h (below_passing g (cells 257 f) (below_cells 257 257 f (omega arith)))
      ∙ over_map ops (cells 257 f) (λ p. (passing g p.0, p.1)) (λ p. ops.product p.1 (h p.0))

  pub passed_added_is_next : (g : ℕ) (f : ℕ → K) (pairs : List Pair) (v : ℕ) → v < 257
      → added ops 0 (passed ops g f) pairs v ≡ next ops 257 (record { move = after g; table = drawn_from pairs }) f v
  passed_added_is_next g f pairs v h =
      added_is_next laws (passed ops g f) pairs v h
      ∙ next_by_times laws (record { move = after 0; table = drawn_from pairs }) (passed ops g f) v
      ∙ ap (mean ops (readings ops (drawn_from pairs)))
      (λ i t. (passed_mean g f (λ x. weigh ops (eqb (after 0 x t) v))
      ∙ ap (λ (m : ℕ → ℕ). mean ops (cells 257 f) (λ x. weigh ops (eqb (m x) v))) (λ j x. after_passing g x t j)) i)
      ∙ sym (next_by_times laws (record { move = after g; table = drawn_from pairs }) f v)

  -- a sheet with c at the time 0 alone
  pub lone_mean : (c : K) (h : ℕ → K) → mean ops (cells 257 (lone ops c)) h ≡ ops.product c (h 0)
  lone_mean c h =
      mean_cells laws 257 (lone ops c) h
      ∙ over_same ops (down 257) _ _ (λ x. by x (eqb x 0) ∙ ap (λ b. ops.product (weigh ops b) (ops.product c (h x))) (turned x))
      ∙ point laws 0 257 (λ v. ops.product c (h v)) (omega arith)
    where
      turned : (x : ℕ) → eqb x 0 ≡ eqb 0 x
      turned x = grind (arith, nat_tests)

      by : (x : ℕ) (b : Bool) → ops.product (cond b c ops.nought) (h x) ≡ ops.product (weigh ops b) (ops.product c (h x))
      by x true = sym (laws.product_unit _)
      by x false = laws.product_nought _ ∙ sym (laws.product_nought _)

  -- the lone unit, with the opening table added
  pub opening_is_cell : (pairs : List Pair) (v : ℕ) → Small pairs → v < 257 → added ops 0 (lone ops ops.unit) pairs v ≡ cell ops (readings ops (drawn_from pairs)) v
  opening_is_cell pairs v small h =
      added_is_next laws (lone ops ops.unit) pairs v h
      ∙ next_by_times laws (record { move = after 0; table = drawn_from pairs }) (lone ops ops.unit) v
      ∙ mean_same laws 256 (readings ops (drawn_from pairs)) _ (λ t. weigh ops (eqb t v))
      (below_readings ops 256 (drawn_from pairs) (below_small pairs small))
      (λ t l. lone_mean ops.unit (λ x. weigh ops (eqb (after 0 x t) v)) ∙ laws.product_unit _ ∙ ap (λ (y : ℕ). weigh ops (eqb y v)) (from_none t l))
      ∙ sym (cell_mean laws (readings ops (drawn_from pairs)) v)
