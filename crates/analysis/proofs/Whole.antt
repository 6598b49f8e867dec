-- Passing and adding keep the weight. Assumes nothing.
use Rattle.std.proofs.Common.{◌≡◌, ℕ, zero, suc, ◌+◌, ◌-◌, ◌<◌, ◌≤◌, min, eqb, ltb, leb, List, sym, refl, ap, ◌∙◌, ap₂, add-zero, arith}
use Rattle.std.proofs.lemmas.Bool.{cond-true, cond-false, lt-ltb, le-ltb, le-leb, lt-leb, ne_eqb}
use Rattle.theory.specs.Semiring.{Ops, Laws}
use Rattle.analysis.specs.Cells.{span, tail, over, passed, total, share, arriving, first, fresh, beyond, added}
use Rattle.analysis.specs.Kept.{PassingKeeps, AddingMultiplies}
use Rattle.analysis.specs.declared.pair.Pair.{Pair}
use Rattle.analysis.proofs.Steps.{sum_nought_right, span_split, span_first}
use Rattle.analysis.proofs.Totals.{over_sum, over_product, over_nought, product_sum}

module _ {K : Type 0} (o : Ops K) where
  pub span_same : (f h : ℕ → K) (a b n : ℕ) → ((k : ℕ) → k < n → f (a + k) ≡ h (b + k)) → span o f a n ≡ span o h b n
  span_same f h a b zero e = refl
  span_same f h a b (suc n) e = ap₂ o.sum (span_same f h a b n (λ k l. e k (omega arith))) (e n (omega arith))

  -- passing, cell by cell
  passed_moved : (g : ℕ) (f : ℕ → K) (k : ℕ) → k < 255 - min g 255 → passed o g f (0 + 1 + k) ≡ f (0 + (min g 255 + 1) + k)
  unfolding passed
  passed_moved g f k l =
      let at : 0 + 1 + k + g ≡ 0 + (min g 255 + 1) + k = omega arith in
      cond-true (ltb (0 + 1 + k) 256) _ _ (lt-ltb _ _ (omega arith))
      ∙ cond-false (eqb (0 + 1 + k) 0) _ _ (ne_eqb _ _ (λ e. omega arith))
      ∙ cond-true (ltb (0 + 1 + k + g) 256) _ _ (lt-ltb _ _ (omega arith)) ∙ ap f at

  passed_empty : (g : ℕ) (f : ℕ → K) (k : ℕ) → k < min g 255 → passed o g f (0 + 1 + (255 - min g 255) + k) ≡ o.nought
  unfolding passed
  passed_empty g f k l =
      cond-true (ltb (0 + 1 + (255 - min g 255) + k) 256) _ _ (lt-ltb _ _ (omega arith))
      ∙ cond-false (eqb (0 + 1 + (255 - min g 255) + k) 0) _ _ (ne_eqb _ _ (λ e. omega arith))
      ∙ cond-false (ltb (0 + 1 + (255 - min g 255) + k + g) 256) _ _ (le-ltb _ _ (omega arith))

  passed_first : (g : ℕ) (f : ℕ → K) → passed o g f 0 ≡ span o f 0 (min g 255 + 1)
  unfolding passed
  passed_first g f = refl

  passed_beyond : (g : ℕ) (f : ℕ → K) (x y : ℕ) → x ≡ 256 → y ≡ 256 → passed o g f x ≡ f y
  unfolding passed
  passed_beyond g f x y e d = ap (passed o g f) e ∙ ap f (sym d)

  -- adding, cell by cell
  added_below : (low : ℕ) (f : ℕ → K) (table : List Pair) (k : ℕ) → low ≤ 256 → k < low → added o low f table (0 + k) ≡ o.product (f (0 + k)) (total o table)
  unfolding added
  added_below low f table k most l =
      cond-true (ltb (0 + k) 256) _ _ (lt-ltb _ _ (omega arith)) ∙ cond-true (ltb (0 + k) low) _ _ (lt-ltb _ _ (omega arith))

  added_above : (low : ℕ) (f : ℕ → K) (table : List Pair) (k : ℕ) → k < 256 - low → added o low f table (0 + low + k) ≡ arriving o low f table (low + k)
  unfolding added
  added_above low f table k l =
      let at : 0 + low + k ≡ low + k = omega arith in
      cond-true (ltb (0 + low + k) 256) _ _ (lt-ltb _ _ (omega arith)) ∙ cond-false (ltb (0 + low + k) low) _ _ (le-ltb _ _ (omega arith))
      ∙ ap (arriving o low f table) at

  added_beyond : (low : ℕ) (f : ℕ → K) (table : List Pair) (x : ℕ) → x ≡ 256 → added o low f table x ≡ beyond o low f table
  unfolding added
  added_beyond low f table x e = ap (added o low f table) e

  -- one pair: nothing comes to the places below its time, and the places above take the cells in turn
  share_none : (low : ℕ) (f : ℕ → K) (p : Pair) (s k : ℕ) → s ≤ p.time → k < s → share o low f (low + k) p ≡ o.nought
  share_none low f p s k most l = cond-false (leb (low + p.time) (low + k)) _ _ (lt-leb _ _ (omega arith))

  share_some : (low : ℕ) (f : ℕ → K) (p : Pair) (s k : ℕ) → s ≡ p.time → share o low f (low + s + k) p ≡ o.product (f (low + k)) (o.read p.weight)
  share_some low f p s k e =
      let at : low + s + k - p.time ≡ low + k = omega arith in
      cond-true (leb (low + p.time) (low + s + k)) _ _ (le-leb _ _ (omega arith)) ∙ ap (λ i. o.product (f i) (o.read p.weight)) at

module _ {K : Type 0} {o : Ops K} {least : K → K → Type 0} (laws : Laws o least) where
  span_nought : (f : ℕ → K) (a n : ℕ) → ((k : ℕ) → k < n → f (a + k) ≡ o.nought) → span o f a n ≡ o.nought
  span_nought f a zero e = refl
  span_nought f a (suc n) e =
      ap₂ o.sum (span_nought f a n (λ k l. e k (omega arith))) (e n (omega arith)) ∙ laws.sum_nought o.nought

  span_product : (f : ℕ → K) (c : K) (a n : ℕ) → span o (λ k. o.product (f k) c) a n ≡ o.product (span o f a n) c
  span_product f c a zero = sym (laws.product_nought c)
  span_product f c a (suc n) =
      ap (λ v. o.sum v (o.product (f (a + n)) c)) (span_product f c a n) ∙ sym (product_sum laws (span o f a n) (f (a + n)) c)

  span_over : {X : Type 0} (h : ℕ → X → K) (xs : List X) (a n : ℕ) → span o (λ k. over o (h k) xs) a n ≡ over o (λ x. span o (λ k. h k x) a n) xs
  span_over h xs a zero = sym (over_nought laws xs)
  span_over h xs a (suc n) =
      ap (λ v. o.sum v (over o (h (a + n)) xs)) (span_over h xs a n) ∙ sym (over_sum laws (λ x. span o (λ k. h k x) a n) (h (a + n)) xs)

  whole : (f : ℕ → K) (n : ℕ) → n ≡ 257 → tail o f 0 ≡ span o f 0 n
  whole f n e = ap (span o f 0) (sym e)

  span_three : (f : ℕ → K) (l m n : ℕ) → span o f 0 (l + (m + n)) ≡ o.sum (span o f 0 l) (o.sum (span o f (0 + l) m) (span o f (0 + l + m) n))
  span_three f l m n = span_split laws f 0 l (m + n) ∙ ap (o.sum (span o f 0 l)) (span_split laws f (0 + l) m n)

  span_one : (f : ℕ → K) (a : ℕ) → span o f a 1 ≡ f a
  span_one f a = laws.sum_nought (f (a + 0)) ∙ ap f (add-zero a)

  lone_span : (f : ℕ → K) (n : ℕ) → ((k : ℕ) → k < n → f (0 + 1 + k) ≡ o.nought) → span o f 0 (1 + n) ≡ f 0
  lone_span f n e =
      span_first laws f 0 n ∙ ap (o.sum (f 0)) (span_nought f (0 + 1) n e) ∙ sum_nought_right laws (f 0)

  -- where cells 1 to 256 are nought, cell 0 is the whole weight
  pub lone_whole : (f : ℕ → K) → ((k : ℕ) → 0 < k → k ≤ 256 → f k ≡ o.nought) → tail o f 0 ≡ f 0
  lone_whole f e = lone_span f 256 (λ k l. e (0 + 1 + k) (omega arith) (omega arith))

  -- PASSING
  -- the cells from the emptied ones on: only what lies beyond
  passed_rest : (g : ℕ) (f : ℕ → K) → span o (passed o g f) (0 + 1 + (255 - min g 255)) (min g 255 + 1) ≡ span o f (0 + (min g 255 + 1) + (255 - min g 255)) 1
  passed_rest g f =
      span_split laws (passed o g f) (0 + 1 + (255 - min g 255)) (min g 255) 1
      ∙ ap₂ o.sum (span_nought (passed o g f) (0 + 1 + (255 - min g 255)) (min g 255) (passed_empty o g f)) (span_one (passed o g f) _)
      ∙ laws.sum_nought _
      ∙ passed_beyond o g f (0 + 1 + (255 - min g 255) + min g 255) (0 + (min g 255 + 1) + (255 - min g 255)) (omega arith) (omega arith)
      ∙ sym (span_one f _)

  pub passing_keeps : PassingKeeps o
  passing_keeps g f =
      whole (passed o g f) (1 + ((255 - min g 255) + (min g 255 + 1))) (omega arith)
      ∙ span_three (passed o g f) 1 (255 - min g 255) (min g 255 + 1)
      ∙ ap₂ o.sum (span_one (passed o g f) 0 ∙ passed_first o g f)
      (ap₂ o.sum (span_same o (passed o g f) f (0 + 1) (0 + (min g 255 + 1)) (255 - min g 255) (passed_moved o g f)) (passed_rest g f))
      ∙ sym (span_three f (min g 255 + 1) (255 - min g 255) 1)
      ∙ sym (whole f ((min g 255 + 1) + ((255 - min g 255) + 1)) (omega arith))

  -- ADDING
  -- one pair: s places that nothing comes to, then d places that take the cells in turn, and the rest goes beyond
  share_span : (low : ℕ) (f : ℕ → K) (p : Pair) (s d : ℕ) → s ≤ p.time → ((k : ℕ) → k < d → s ≡ p.time)
      → span o (λ k. share o low f k p) low (s + d) ≡ o.product (span o f low d) (o.read p.weight)
  share_span low f p s d most full =
      span_split laws (λ k. share o low f k p) low s d
      ∙ ap₂ o.sum (span_nought (λ k. share o low f k p) low s (λ k l. share_none o low f p s k most l))
      (span_same o (λ k. share o low f k p) (λ k. o.product (f k) (o.read p.weight)) (low + s) low d (λ k l. share_some o low f p s k (full k l))
      ∙ span_product f (o.read p.weight) low d)
      ∙ laws.sum_nought _

  pair_kept : (low : ℕ) (f : ℕ → K) (p : Pair) → low ≤ 256
      → o.sum (span o (λ k. share o low f k p) low (256 - low)) (fresh o low f p) ≡ o.product (span o f low (256 - low)) (o.read p.weight)
  pair_kept low f p most =
      let d : ℕ = first low p.time - low in
      let s : ℕ = 256 - low - d in
      let n : 256 - low ≡ s + d = omega arith in
      let m : d + (256 - first low p.time) ≡ 256 - low = omega arith in
      let from : first low p.time ≡ low + d = omega arith in
      ap₂ o.sum
      (ap (span o (λ k. share o low f k p) low) n ∙ share_span low f p s d (omega arith) (λ k l. omega arith))
      (ap (λ a. o.product (span o f a (256 - first low p.time)) (o.read p.weight)) from)
      ∙ sym (product_sum laws (span o f low d) (span o f (low + d) (256 - first low p.time)) (o.read p.weight))
      ∙ ap (λ v. o.product v (o.read p.weight)) (sym (span_split laws f low d (256 - first low p.time)) ∙ ap (span o f low) m)

  -- the times at or above low, and what they bring beyond
  above_kept : (low : ℕ) (f : ℕ → K) (table : List Pair) → low ≤ 256
      → o.sum (span o (added o low f table) (0 + low) (256 - low)) (over o (fresh o low f) table) ≡ o.product (span o f low (256 - low)) (total o table)
  above_kept low f table most =
      ap (λ v. o.sum v (over o (fresh o low f) table))
      (span_same o (added o low f table) (arriving o low f table) (0 + low) low (256 - low) (added_above o low f table)
      ∙ span_over (λ k p. share o low f k p) table low (256 - low))
      ∙ sym (over_sum laws (λ p. span o (λ k. share o low f k p) low (256 - low)) (fresh o low f) table)
      ∙ ap (λ h. over o h table) (λ i p. pair_kept low f p most i)
      ∙ over_product laws (span o f low (256 - low)) (λ p. o.read p.weight) table

  below_kept : (low : ℕ) (f : ℕ → K) (table : List Pair) → low ≤ 256 → span o (added o low f table) 0 low ≡ o.product (span o f 0 low) (total o table)
  below_kept low f table most =
      span_same o (added o low f table) (λ k. o.product (f k) (total o table)) 0 0 low (λ k l. added_below o low f table k most l)
      ∙ span_product f (total o table) 0 low

  pub adding_multiplies : AddingMultiplies o
  adding_multiplies low f table most =
      let t = total o table in
      let a = span o f 0 low in
      let b = span o f low (256 - low) in
      let c = over o (fresh o low f) table in
      let mid = span o (added o low f table) (0 + low) (256 - low) in
      whole (added o low f table) (low + ((256 - low) + 1)) (omega arith)
      ∙ span_three (added o low f table) low (256 - low) 1
      ∙ ap₂ o.sum (below_kept low f table most)
      (ap (o.sum mid) (span_one (added o low f table) _ ∙ added_beyond o low f table (0 + low + (256 - low)) (omega arith))
      ∙ sym (laws.sum_assoc mid c (o.product (f 256) t))
      ∙ ap (λ v. o.sum v (o.product (f 256) t)) (above_kept low f table most)
      ∙ sym (product_sum laws b (f 256) t))
      ∙ sym (product_sum laws a (o.sum b (f 256)) t)
      ∙ ap (λ v. o.product v t)
      (ap (o.sum a) (ap₂ o.sum (ap (λ i. span o f i (256 - low)) (let z : low ≡ 0 + low = omega arith in z))
      (ap f (let z : 256 ≡ 0 + low + (256 - low) = omega arith in z) ∙ sym (span_one f (0 + low + (256 - low)))))
      ∙ sym (span_three f low (256 - low) 1)
      ∙ sym (whole f (low + ((256 - low) + 1)) (omega arith)))
