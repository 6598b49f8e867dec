-- What the laws give of sums over a table. Assumes nothing.
use Rattle.std.proofs.Common.{◌≡◌, ℕ, ◌-◌, ◌≤◌, List, [], ◌∷◌, fold, sym, refl, ap, ◌∙◌, arith}
use Rattle.theory.specs.Semiring.{Ops, Laws}
use Rattle.analysis.specs.Cells.{over, span, first, fresh, beyond}
use Rattle.analysis.specs.Inner.{excess, overdue}
use Rattle.analysis.specs.declared.pair.Pair.{Pair}
use Rattle.analysis.proofs.Steps.{span_more}

module _ {K : Type 0} {o : Ops K} {least : K → K → Type 0} (laws : Laws o least) where
  -- what was there already can be added after
  folded_from : {X : Type 0} (h : X → K) (a : K) (xs : List X) → fold (λ a x. o.sum a (h x)) a xs ≡ o.sum a (over o h xs)
  folded_from h a [] = sym (laws.sum_comm a o.nought ∙ laws.sum_nought a)
  folded_from h a (x ∷ xs) =
      folded_from h (o.sum a (h x)) xs ∙ laws.sum_assoc a (h x) (over o h xs)
      ∙ ap (o.sum a) (sym (folded_from h (o.sum o.nought (h x)) xs ∙ ap (λ v. o.sum v (over o h xs)) (laws.sum_nought (h x))))

  pub over_cons : {X : Type 0} (h : X → K) (x : X) (xs : List X) → over o h (x ∷ xs) ≡ o.sum (h x) (over o h xs)
  over_cons h x xs =
      folded_from h (o.sum o.nought (h x)) xs ∙ ap (λ v. o.sum v (over o h xs)) (laws.sum_nought (h x))

  pub over_nought : {X : Type 0} (xs : List X) → over o (λ x. o.nought) xs ≡ o.nought
  over_nought [] = refl
  over_nought (x ∷ xs) = over_cons (λ x. o.nought) x xs ∙ laws.sum_nought _ ∙ over_nought xs

  swap : (a b c d : K) → o.sum (o.sum a b) (o.sum c d) ≡ o.sum (o.sum a c) (o.sum b d)
  swap a b c d =
      laws.sum_assoc a b (o.sum c d)
      ∙ ap (o.sum a) (sym (laws.sum_assoc b c d) ∙ ap (λ v. o.sum v d) (laws.sum_comm b c) ∙ laws.sum_assoc c b d)
      ∙ sym (laws.sum_assoc a c (o.sum b d))

  pub over_sum : {X : Type 0} (h k : X → K) (xs : List X) → over o (λ x. o.sum (h x) (k x)) xs ≡ o.sum (over o h xs) (over o k xs)
  over_sum h k [] = sym (laws.sum_nought o.nought)
  over_sum h k (x ∷ xs) =
      over_cons (λ x. o.sum (h x) (k x)) x xs ∙ ap (o.sum (o.sum (h x) (k x))) (over_sum h k xs)
      ∙ swap (h x) (k x) (over o h xs) (over o k xs)
      ∙ sym (ap (λ v. o.sum v (over o k (x ∷ xs))) (over_cons h x xs) ∙ ap (o.sum (o.sum (h x) (over o h xs))) (over_cons k x xs))

  pub over_product : {X : Type 0} (c : K) (h : X → K) (xs : List X) → over o (λ x. o.product c (h x)) xs ≡ o.product c (over o h xs)
  over_product c h [] = sym (laws.product_comm c o.nought ∙ laws.product_nought c)
  over_product c h (x ∷ xs) =
      over_cons (λ x. o.product c (h x)) x xs ∙ ap (o.sum (o.product c (h x))) (over_product c h xs)
      ∙ sym (laws.distributive c (h x) (over o h xs)) ∙ ap (o.product c) (sym (over_cons h x xs))

  pub product_sum : (a b c : K) → o.product (o.sum a b) c ≡ o.sum (o.product a c) (o.product b c)
  product_sum a b c =
      laws.product_comm (o.sum a b) c ∙ laws.distributive c a b
      ∙ ap (λ v. o.sum v (o.product c b)) (laws.product_comm c a) ∙ ap (o.sum (o.product a c)) (laws.product_comm c b)

  pub excess_is : (low : ℕ) (f : ℕ → K) (p : Pair) → low ≤ 256 → excess o low f p ≡ o.sum (fresh o low f p) (o.product (f 256) (o.read p.weight))
  excess_is low f p l =
      ap (λ v. o.product v (o.read p.weight)) (span_more o f (first low p.time) 256 (omega arith))
      ∙ product_sum (span o f (first low p.time) (256 - first low p.time)) (f 256) (o.read p.weight)

  -- what lay beyond is multiplied by the table's total, and the times bring the rest
  pub overdue_is : (low : ℕ) (f : ℕ → K) (table : List Pair) → low ≤ 256 → overdue o low f table ≡ beyond o low f table
  overdue_is low f table l =
      ap (λ h. over o h table) (λ i p. excess_is low f p l i)
      ∙ over_sum (fresh o low f) (λ p. o.product (f 256) (o.read p.weight)) table
      ∙ ap (o.sum (over o (fresh o low f) table)) (over_product (f 256) (λ p. o.read p.weight) table)
