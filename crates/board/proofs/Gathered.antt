-- The cells of an exact answer after the deadline, and the weight of all its scenarios.
use Rattle.std.proofs.Common.{◌≡◌, ℕ, ◌+◌, ◌-◌, ◌<◌, ◌≤◌, ltb, leb, List, [], ◌∷◌, ◌++◌, map, length, take, set, Option, sym, refl, ap, ◌∙◌, ⊎_elim, length-append, arith}
use mathlib.Core.List.{map-map}
use Rattle.std.proofs.lemmas.List.{get_or-set_same, get_or-set_other, get_or_append_left, get_or-append_right, get_or-take, get_or_past, length-take-le, map-append}
use Rattle.std.proofs.lemmas.Bool.{cases_lt, cases_eq, cond-true, cond-false, le-leb, lt-leb, lt-ltb, le-ltb, eq-eqb, ne_eqb}
use Rattle.theory.specs.Semiring.{Ops, Laws}
use Rattle.theory.specs.Sums.{over}
use Rattle.analysis.specs.declared.pair.Pair.{Pair}
use Rattle.analysis.specs.Cells.{cells, tail, total}
use Rattle.analysis.proofs.Steps.{same_cells}
use Rattle.analysis.proofs.Totals.{over_cons}
use Rattle.scenarios.specs.Questions.{counted as CountedOf, drawn_from, product_of, weight_of_all}
use Rattle.board.specs.Model.{Entry}
use Rattle.board.specs.Jobs.{Rule, Job, counted, counted_before, counted_later}
use Rattle.board.specs.Questions.{as_counted, question_over}
use Rattle.board.specs.Walk.{gathered_late}

module _ {K : Type 0} (o : Ops K) where
  pub other_cell : (xs : List K) (i k : ℕ) (y : K) → (k ≡ i → ⊥) → cells o (set xs i y) k ≡ cells o xs k
  other_cell xs i k y n = get_or-set_other xs i k y o.nought n

  pub same_cell : (xs : List K) (i : ℕ) (y : K) → i < length xs → cells o (set xs i y) i ≡ y
  same_cell xs i y h = get_or-set_same xs i y o.nought h

  pub gathered_all : (old : ℕ → K) (xs : List K) (d : ℕ) (late : K) → length xs ≡ 257 → d ≤ 254
      → ((k : ℕ) → k < d + 1 → cells o xs k ≡ old k) → ((k : ℕ) → d + 1 ≤ k → k < 257 → cells o xs k ≡ o.nought) → ((k : ℕ) → 257 ≤ k → cells o xs k ≡ old k)
      → late ≡ tail o old (d + 1) → cells o (set xs 256 late) ≡ gathered_late o d old
  unfolding gathered_late
  gathered_all old xs d late long small low mid high is =
      same_cells (λ k.
      ⊎_elim
      (λ (h : k < d + 1). other_cell xs 256 k late (λ e. omega arith) ∙ low k h ∙ sym (cond-true _ _ _ (le-leb k d (omega arith))))
      (λ (h : d + 1 ≤ k).
      let past = cond-false (leb k d) (old k) _ (lt-leb k d (omega arith)) in
      ⊎_elim
      (λ (l : k < 256). other_cell xs 256 k late (λ e. omega arith) ∙ mid k h (omega arith) ∙ sym (past ∙ cond-true _ _ _ (lt-ltb k 256 l)))
      (λ (l : 256 ≤ k).
      let out = past ∙ cond-false (ltb k 256) o.nought _ (le-ltb k 256 l) in
      ⊎_elim
      (λ (e : k ≡ 256). ap (cells o (set xs 256 late)) e ∙ same_cell xs 256 late (omega arith) ∙ is ∙ sym (out ∙ cond-true _ _ _ (eq-eqb k 256 e)))
      (λ (n : k ≡ 256 → ⊥). other_cell xs 256 k late n ∙ high k (omega arith) ∙ sym (out ∙ cond-false _ _ _ (ne_eqb k 256 n)))
      (cases_eq k 256))
      (cases_lt k 256))
      (cases_lt k (d + 1)))

  -- the cells up to the deadline, and others after them that are all nought
  pub gathered_part : (old after past : List K) (d : ℕ) (late : K) → length old ≡ 257 → d ≤ 254 → length after ≡ 257 - (d + 1) → length past ≡ 0
      → ((k : ℕ) → k < length after → cells o after k ≡ o.nought) → late ≡ tail o (cells o old) (d + 1) → cells o (set (take (d + 1) old ++ (after ++ past)) 256 late) ≡ gathered_late o d (cells o old)
  gathered_part old after past d late long small rest end zero is =
      let xs = take (d + 1) old ++ (after ++ past) in
      let head : length (take (d + 1) old) ≡ d + 1 = length-take-le (d + 1) old (omega arith) in
      let all : length xs ≡ 257 = omega (arith, length-append (take (d + 1) old) (after ++ past), length-append after past) in
      gathered_all (cells o old) xs d late all small
      (λ k h. get_or_append_left (take (d + 1) old) (after ++ past) o.nought k (omega arith) ∙ get_or-take (d + 1) old k o.nought h)
      (λ k h l. get_or-append_right (take (d + 1) old) (after ++ past) (d + 1) k o.nought head h ∙ get_or_append_left after past o.nought (k - (d + 1)) (omega arith) ∙ zero (k - (d + 1)) (omega arith))
      (λ k h. get_or_past xs k o.nought (omega arith) ∙ sym (get_or_past old k o.nought (omega arith)))
      is

module _ {K : Type 0} {o : Ops K} {least : K → K → Type 0} (laws : Laws o least) where
  pub total_is : (pairs : List Pair) → total o pairs ≡ over o (drawn_from pairs) (λ x. o.read x.1)
  total_is [] = refl
  total_is (p ∷ ps) = over_cons laws (λ q. o.read q.weight) p ps ∙ ap (o.sum (o.read p.weight)) (total_is ps)

  -- one more counted job
  pub product_more : (all : K) (pairs : List Pair) (rest : K) → o.product (o.product all (total o pairs)) rest ≡ o.product all (o.product (over o (drawn_from pairs) (λ x. o.read x.1)) rest)
  product_more all pairs rest = laws.product_assoc all (total o pairs) rest ∙ ap (λ t. o.product all (o.product t rest)) (total_is pairs)

  pub product_none : (all : K) → o.product all o.unit ≡ all
  product_none all = laws.product_comm all o.unit ∙ laws.product_unit all

  jobs_same : (rule : Rule) (ps : List (Option Entry)) (opening : List Pair) (j : Job) → CountedOf (question_over rule ps opening j) ≡ map (as_counted rule) (counted rule ps j)
  unfolding counted
  jobs_same rule ps opening j = sym (map-append (as_counted rule) (counted_before rule ps j) (j ∷ counted_later rule ps j))

  pub weight_is : (rule : Rule) (ps : List (Option Entry)) (opening : List Pair) (j : Job) → o.product (total o opening) (product_of o (map (λ k. drawn_from k.entry.pairs) (counted rule ps j))) ≡ weight_of_all o (question_over rule ps opening j)
  weight_is rule ps opening j =
      ap (λ t. o.product t (product_of o (map (λ k. drawn_from k.entry.pairs) (counted rule ps j)))) (total_is opening)
      ∙ ap (λ ts. o.product (over o (drawn_from opening) (λ x. o.read x.1)) (product_of o ts))
      (sym (ap (map (λ k. drawn_from k.pairs)) (jobs_same rule ps opening j) ∙ map-map (λ k. drawn_from k.pairs) (as_counted rule) (counted rule ps j)))
