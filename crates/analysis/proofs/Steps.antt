-- The steps of the loops over a sheet or a table. Assumes nothing.
use Rattle.std.proofs.Common.{◌≡◌, ℕ, zero, suc, ◌+◌, ◌-◌, ◌<◌, ◌≤◌, cond, eqb, leb, ◌⊎◌, List, length, get_or, take, take_all, set, sym, refl, ap, ◌∙◌, inl, inr, add-zero, add_assoc, add-suc, arith}
use Rattle.std.proofs.lemmas.List.{get_or-set_same, get_or-set_other}
use Rattle.std.proofs.lemmas.Bool.{cases_eq}
use Rattle.std.proofs.lemmas.Bool.Decides.{nat_tests}
use Rattle.std.proofs.lemmas.List.Sums.{fold_more}
use Rattle.theory.specs.Semiring.{Ops, Laws}
use Rattle.analysis.specs.declared.pair.Pair.{Pair}
use Rattle.analysis.specs.Cells.{cells, span, tail, over, arriving}
use Rattle.analysis.specs.Inner.{joint, tails_to}

module _ {K : Type 0} (o : Ops K) where
  -- one cell more
  pub span_more : (f : ℕ → K) (a x : ℕ) → a ≤ x → span o f a (x + 1 - a) ≡ o.sum (span o f a (x - a)) (f x)
  span_more f a x h =
      let e : x + 1 - a ≡ suc (x - a) = omega arith in
      let n : a + (x - a) ≡ x = omega arith in
      ap (span o f a) e ∙ ap (λ k. o.sum (span o f a (x - a)) (f k)) n

  -- one element more
  pub over_more : {X : Type 0} (h : X → K) (xs : List X) (i : ℕ) (d : X) → i < length xs → over o h (take (i + 1) xs) ≡ o.sum (over o h (take i xs)) (h (get_or xs i d))
  over_more h xs i d = fold_more (λ a x. o.sum a (h x)) o.nought xs i d

module _ {K : Type 0} (o : Ops K) where
  over_span_to : (xs : List K) (n : ℕ) → n ≤ length xs → over o (λ x. x) (take n xs) ≡ span o (cells o xs) 0 n
  over_span_to xs zero l = refl
  over_span_to xs (suc n) l =
      let more : suc n ≡ n + 1 = omega arith in
      ap (λ m. over o (λ x. x) (take m xs)) more ∙ over_more o (λ x. x) xs n o.nought (omega arith)
      ∙ ap (λ v. o.sum v (cells o xs n)) (over_span_to xs n (omega arith))
      ∙ ap (λ k. o.sum (span o (cells o xs) 0 n) (cells o xs k)) (let at : n ≡ 0 + n = omega arith in at)

  -- the sum of all elements, by their places
  pub over_span : (xs : List K) → over o (λ x. x) xs ≡ span o (cells o xs) 0 (length xs)
  over_span xs = sym (ap (over o (λ x. x)) (take_all (length xs) xs (omega arith))) ∙ over_span_to xs (length xs) (omega arith)

-- f with y at the place i
abbrev pub put : {K : Type 0} → (ℕ → K) → ℕ → K → ℕ → K
put f i y k = cond (eqb k i) y (f k)

module _ {K : Type 0} where
  pub same_cells : {f h : ℕ → K} → ((k : ℕ) → f k ≡ h k) → f ≡ h
  same_cells e = λ i k. e k i

  pub joint_none : (f h : ℕ → K) → h ≡ joint f h 0
  joint_none f h = same_cells (λ k. grind (arith, nat_tests))

  pub joint_below : (f h : ℕ → K) (i k : ℕ) → k < i → joint f h i k ≡ f k
  joint_below f h i k l = grind (arith, nat_tests)

  pub joint_above : (f h : ℕ → K) (i k : ℕ) → i ≤ k → joint f h i k ≡ h k
  joint_above f h i k l = grind (arith, nat_tests)

  put_up : (f h : ℕ → K) (i : ℕ) (y : K) → y ≡ f i → (k : ℕ) → put (joint f h i) i y k ≡ joint f h (i + 1) k
  put_up f h i y e k = grind (arith, nat_tests)

  put_down : (f h : ℕ → K) (i : ℕ) (y : K) → 0 < i → y ≡ h (i - 1) → (k : ℕ) → put (joint f h i) (i - 1) y k ≡ joint f h (i - 1) k
  put_down f h i y l e k = grind (arith, nat_tests)

  module _ (o : Ops K) where
    set_at_each : (xs : List K) (i : ℕ) (y : K) → i < length xs → (k : ℕ) → (k ≡ i) ⊎ (k ≡ i → ⊥) → cells o (set xs i y) k ≡ put (cells o xs) i y k
    set_at_each xs i y l k (inl e) = rw (e, get_or-set_same) (grind (arith, nat_tests))
    set_at_each xs i y l k (inr n) = rw get_or-set_other (grind (arith, nat_tests))

    pub cells_set : (xs : List K) (i : ℕ) (y : K) → i < length xs → cells o (set xs i y) ≡ put (cells o xs) i y
    cells_set xs i y l = same_cells (λ k. set_at_each xs i y l k (cases_eq k i))

    -- a loop that goes up
    pub joint_up : (f h : ℕ → K) (xs : List K) (i : ℕ) (y : K) → i < length xs → cells o xs ≡ joint f h i → y ≡ f i → cells o (set xs i y) ≡ joint f h (i + 1)
    joint_up f h xs i y l e r = cells_set xs i y l ∙ ap (λ c. put c i y) e ∙ same_cells (put_up f h i y r)

    -- a loop that goes down
    pub joint_down : (f h : ℕ → K) (xs : List K) (i : ℕ) (y : K) → 0 < i → i ≤ length xs → cells o xs ≡ joint f h i → y ≡ h (i - 1) → cells o (set xs (i - 1) y) ≡ joint f h (i - 1)
    joint_down f h xs i y p l e r = cells_set xs (i - 1) y (omega arith) ∙ ap (λ c. put c (i - 1) y) e ∙ same_cells (put_down f h i y p r)

    -- what stands at the time x and below decides what comes to x
    pub arriving_same : (low : ℕ) (f h : ℕ → K) (table : List Pair) (x : ℕ) → ((k : ℕ) → k ≤ x → f k ≡ h k) → arriving o low f table x ≡ arriving o low h table x
    arriving_same low f h table x e =
        ap (λ s. over o s table)
        (λ i p. share_at low x p (e (x - p.time) (omega arith) i))
      where
        share_at : ℕ → ℕ → Pair → K → K
        share_at low x p v = cond (leb (low + p.time) x) (o.product v (o.read p.weight)) o.nought

module _ {K : Type 0} {o : Ops K} {least : K → K → Type 0} (laws : Laws o least) where
  pub sum_nought_right : (x : K) → o.sum x o.nought ≡ x
  sum_nought_right x = laws.sum_comm x o.nought ∙ laws.sum_nought x

-- the tails of a sheet
module _ {K : Type 0} {o : Ops K} {least : K → K → Type 0} (laws : Laws o least) where
  pub span_split : (f : ℕ → K) (a m n : ℕ) → span o f a (m + n) ≡ o.sum (span o f a m) (span o f (a + m) n)
  span_split f a m zero = ap (span o f a) (add-zero m) ∙ sym (sum_nought_right laws (span o f a m))
  span_split f a m (suc n) =
      ap (span o f a) (add-suc m n)
      ∙ ap (λ v. o.sum v (f (a + (m + n)))) (span_split f a m n)
      ∙ laws.sum_assoc (span o f a m) (span o f (a + m) n) (f (a + (m + n)))
      ∙ ap (λ k. o.sum (span o f a m) (o.sum (span o f (a + m) n) (f k))) (sym (add_assoc a m n))

  -- the first cell apart
  pub span_first : (f : ℕ → K) (a n : ℕ) → span o f a (1 + n) ≡ o.sum (f a) (span o f (a + 1) n)
  span_first f a n =
      span_split f a 1 n ∙ ap (λ v. o.sum v (span o f (a + 1) n)) (laws.sum_nought (f (a + 0)) ∙ ap f (add-zero a))

  pub tail_step : (f : ℕ → K) (x : ℕ) → x < 257 → tail o f x ≡ o.sum (f x) (tail o f (x + 1))
  tail_step f x l = let e : 257 - x ≡ 1 + (257 - (x + 1)) = omega arith in ap (span o f x) e ∙ span_first f x (257 - (x + 1))

  -- one cell more, from the last one down
  pub tails_to_more : (f : ℕ → K) (n x : ℕ) → 0 < x → x ≤ n → tails_to o n f (x - 1) ≡ o.sum (f (x - 1)) (tails_to o n f x)
  tails_to_more f n x p l =
      let many : n - (x - 1) ≡ 1 + (n - x) = omega arith in
      let back : x - 1 + 1 ≡ x = omega arith in
      ap (span o f (x - 1)) many ∙ span_first f (x - 1) (n - x) ∙ ap (λ k. o.sum (f (x - 1)) (span o f k (n - x))) back

module _ {K : Type 0} (o : Ops K) where
  -- past the last cell there is nothing to sum
  pub tails_to_past : (f : ℕ → K) (n k : ℕ) → n ≤ k → tails_to o n f k ≡ o.nought
  tails_to_past f n k l = let none : n - k ≡ 0 = omega arith in ap (span o f k) none
