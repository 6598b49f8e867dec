-- A table added to a sheet is one step of the walk, and a sheet's tail is the walk's. Assumes nothing.
use Rattle.std.proofs.Common.{◌≡◌, ℕ, zero, suc, ◌+◌, ◌-◌, ◌<◌, ◌≤◌, min, Bool, false, eqb, ltb, leb, sym, refl, ap, ◌∙◌, ap₂, inl, inr, arith}
use mathlib.Core.Path.{fun_ext}
use Rattle.std.proofs.lemmas.Bool.{cases_lt, lt-ltb, le-ltb, le-leb, lt-leb}
use Rattle.theory.specs.Semiring.{Ops, Laws}
use Rattle.theory.specs.Sums.{over, weigh, mean, down, cells}
use Rattle.theory.specs.Walk.{rest}
use Rattle.theory.proofs.Sums.{over_same, over_nought, nought_product, unit_product}
use Rattle.theory.proofs.Pushed.{tail_mean, mean_cells, cell_back}
use Rattle.analysis.specs.Cells.{span, tail}

module _ {K : Type 0} {ops : Ops K} {least : K → K → Type 0} (laws : Laws ops least) where
  -- the cells from a on
  pub cells_from : (n a : ℕ) (f : ℕ → K) → over ops (down n) (λ x. ops.product (f x) (weigh ops (leb a x))) ≡ span ops f a (n - a)
  unfolding down
  cells_from zero a f = let e : 0 - a ≡ 0 = omega arith in sym (ap (span ops f a) e)
  cells_from (suc n) a f = elim (cases_lt n a) [
    | inl l ↦
        let e : suc n - a ≡ n - a = omega arith in
        ap₂ ops.sum (ap (λ b. ops.product (f n) (weigh ops b)) (lt-leb a n l) ∙ nought_product laws (f n)) (cells_from n a f)
        ∙ laws.sum_nought _ ∙ sym (ap (span ops f a) e)
    | inr l ↦
        let e : suc n - a ≡ suc (n - a) = omega arith in
        let at : a + (n - a) ≡ n = omega arith in
        ap₂ ops.sum (ap (λ b. ops.product (f n) (weigh ops b)) (le-leb a n l) ∙ unit_product laws (f n)) (cells_from n a f)
        ∙ laws.sum_comm _ _ ∙ ap (λ k. ops.sum (span ops f a (n - a)) (f k)) (sym at) ∙ sym (ap (span ops f a) e)
  ]

  -- the cells below m
  pub cells_below : (n m : ℕ) (f : ℕ → K) → over ops (down n) (λ x. ops.product (f x) (weigh ops (ltb x m))) ≡ span ops f 0 (min n m)
  unfolding down
  cells_below zero m f = let e : min 0 m ≡ 0 = omega arith in sym (ap (span ops f 0) e)
  cells_below (suc n) m f = elim (cases_lt n m) [
    | inl l ↦
        let e : min (suc n) m ≡ suc n = omega arith in
        let e' : min n m ≡ n = omega arith in
        let at : 0 + n ≡ n = omega arith in
        ap₂ ops.sum (ap (λ b. ops.product (f n) (weigh ops b)) (lt-ltb n m l) ∙ unit_product laws (f n)) (cells_below n m f ∙ ap (span ops f 0) e')
        ∙ laws.sum_comm _ _ ∙ ap (λ k. ops.sum (span ops f 0 n) (f k)) (sym at) ∙ sym (ap (span ops f 0) e)
    | inr l ↦
        let e : min (suc n) m ≡ min n m = omega arith in
        ap₂ ops.sum (ap (λ b. ops.product (f n) (weigh ops b)) (le-ltb n m l) ∙ nought_product laws (f n)) (cells_below n m f)
        ∙ laws.sum_nought _ ∙ sym (ap (span ops f 0) e)
  ]

  -- the weight of the cells that a test holds of
  abbrev pub where_it : (ℕ → K) → (ℕ → Bool) → K
  where_it f p = mean ops (cells 257 f) (λ x. weigh ops (p x))

  where_same : (f : ℕ → K) (p q : ℕ → Bool) → ((x : ℕ) → p x ≡ q x) → where_it f p ≡ where_it f q
  where_same f p q e = ap (where_it f) (fun_ext e)

  pub where_one : (f : ℕ → K) (p : ℕ → Bool) (v : ℕ) → v < 257 → ((x : ℕ) → p x ≡ eqb x v) → where_it f p ≡ f v
  where_one f p v h e = where_same f p (λ x. eqb x v) e ∙ cell_back laws 257 f v h

  pub where_none : (f : ℕ → K) (p : ℕ → Bool) → ((x : ℕ) → p x ≡ false) → where_it f p ≡ ops.nought
  where_none f p e =
      where_same f p (λ x. false) e
      ∙ over_same ops (cells 257 f) _ (λ q. ops.nought) (λ q. nought_product laws q.1)
      ∙ over_nought laws (cells 257 f)

  pub where_from : (f : ℕ → K) (p : ℕ → Bool) (a : ℕ) → ((x : ℕ) → p x ≡ leb a x) → where_it f p ≡ span ops f a (257 - a)
  where_from f p a e = where_same f p (λ x. leb a x) e ∙ mean_cells laws 257 f (λ x. weigh ops (leb a x)) ∙ cells_from 257 a f

  pub where_below : (f : ℕ → K) (p : ℕ → Bool) (m : ℕ) → m ≤ 257 → ((x : ℕ) → p x ≡ ltb x m) → where_it f p ≡ span ops f 0 m
  where_below f p m h e =
      let n : min 257 m ≡ m = omega arith in
      where_same f p (λ x. ltb x m) e ∙ mean_cells laws 257 f (λ x. weigh ops (ltb x m)) ∙ cells_below 257 m f ∙ ap (span ops f 0) n

  -- a sheet's tail is the walk's
  pub tail_is_rest : (f : ℕ → K) (y : ℕ) → tail ops f y ≡ rest ops 257 f y
  tail_is_rest f y = sym (tail_mean laws (cells 257 f) y ∙ where_from f (λ x. leb y x) y (λ x. refl))
