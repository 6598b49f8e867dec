-- What the laws give of sums over lists. Assumes nothing.
use Rattle.std.proofs.Common.{◌≡◌, Bool, true, false, cond, List, [], ◌∷◌, ◌++◌, map, sym, refl, ap, ◌∙◌, ap₂}
use mathlib.Core.Path.{fun_ext}
use Rattle.std.specs.List.{filter, flat_map}
use Rattle.theory.specs.Semiring.{Ops, Laws}
use Rattle.theory.specs.Sums.{over, weigh}

pub over_same : {K A : Type 0} (ops : Ops K) (xs : List A) (f g : A → K) → ((x : A) → f x ≡ g x) → over ops xs f ≡ over ops xs g
over_same ops xs f g e = ap (over ops xs) (fun_ext e)

pub over_map : {K A B : Type 0} (ops : Ops K) (xs : List A) (h : A → B) (f : B → K) → over ops (map h xs) f ≡ over ops xs (λ x. f (h x))
over_map ops [] h f = refl
over_map ops (x ∷ xs) h f = ap (ops.sum (f (h x))) (over_map ops xs h f)

module _ {K : Type 0} {ops : Ops K} {least : K → K → Type 0} (laws : Laws ops least) where
  pub nought_sum : (x : K) → ops.sum x ops.nought ≡ x
  nought_sum x = laws.sum_comm x ops.nought ∙ laws.sum_nought x

  pub nought_product : (x : K) → ops.product x ops.nought ≡ ops.nought
  nought_product x = laws.product_comm x ops.nought ∙ laws.product_nought x

  pub unit_product : (x : K) → ops.product x ops.unit ≡ x
  unit_product x = laws.product_comm x ops.unit ∙ laws.product_unit x

  pub distributes_right : (x y z : K) → ops.product (ops.sum x y) z ≡ ops.sum (ops.product x z) (ops.product y z)
  distributes_right x y z =
      laws.product_comm (ops.sum x y) z ∙ laws.distributive z x y ∙ ap₂ ops.sum (laws.product_comm z x) (laws.product_comm z y)

  pub product_left_comm : (x y z : K) → ops.product x (ops.product y z) ≡ ops.product y (ops.product x z)
  product_left_comm x y z =
      sym (laws.product_assoc x y z) ∙ ap (λ u. ops.product u z) (laws.product_comm x y) ∙ laws.product_assoc y x z

  -- (a + b) + (c + d) = (a + c) + (b + d)
  pub sum_middle : (a b c d : K) → ops.sum (ops.sum a b) (ops.sum c d) ≡ ops.sum (ops.sum a c) (ops.sum b d)
  sum_middle a b c d =
      laws.sum_assoc a b (ops.sum c d)
      ∙ ap (ops.sum a) (sym (laws.sum_assoc b c d) ∙ ap (λ u. ops.sum u d) (laws.sum_comm b c) ∙ laws.sum_assoc c b d)
      ∙ sym (laws.sum_assoc a c (ops.sum b d))

  pub over_append : {A : Type 0} (xs ys : List A) (f : A → K) → over ops (xs ++ ys) f ≡ ops.sum (over ops xs f) (over ops ys f)
  over_append [] ys f = sym (laws.sum_nought (over ops ys f))
  over_append (x ∷ xs) ys f = ap (ops.sum (f x)) (over_append xs ys f) ∙ sym (laws.sum_assoc (f x) (over ops xs f) (over ops ys f))

  pub over_flat : {A B : Type 0} (xs : List A) (h : A → List B) (f : B → K) → over ops (flat_map h xs) f ≡ over ops xs (λ x. over ops (h x) f)
  over_flat [] h f = refl
  over_flat (x ∷ xs) h f = over_append (h x) (flat_map h xs) f ∙ ap (ops.sum (over ops (h x) f)) (over_flat xs h f)

  pub over_scaled : {A : Type 0} (c : K) (xs : List A) (f : A → K) → over ops xs (λ x. ops.product c (f x)) ≡ ops.product c (over ops xs f)
  over_scaled c [] f = sym (nought_product c)
  over_scaled c (x ∷ xs) f = ap (ops.sum (ops.product c (f x))) (over_scaled c xs f) ∙ sym (laws.distributive c (f x) (over ops xs f))

  pub over_nought : {A : Type 0} (xs : List A) → over ops xs (λ x. ops.nought) ≡ ops.nought
  over_nought [] = refl
  over_nought (x ∷ xs) = laws.sum_nought (over ops xs (λ x. ops.nought)) ∙ over_nought xs

  pub over_sum : {A : Type 0} (xs : List A) (f g : A → K) → over ops xs (λ x. ops.sum (f x) (g x)) ≡ ops.sum (over ops xs f) (over ops xs g)
  over_sum [] f g = sym (laws.sum_nought ops.nought)
  over_sum (x ∷ xs) f g = ap (ops.sum (ops.sum (f x) (g x))) (over_sum xs f g) ∙ sum_middle (f x) (g x) (over ops xs f) (over ops xs g)

  -- two sums change places
  pub over_swap : {A B : Type 0} (xs : List A) (ys : List B) (f : A → B → K)
      → over ops xs (λ x. over ops ys (f x)) ≡ over ops ys (λ y. over ops xs (λ x. f x y))
  over_swap [] ys f = sym (over_nought ys)
  over_swap (x ∷ xs) ys f =
      ap (ops.sum (over ops ys (f x))) (over_swap xs ys f) ∙ sym (over_sum ys (f x) (λ y. over ops xs (λ z. f z y)))

  -- a sum over the elements that pass a test
  pub over_kept : {A : Type 0} (p : A → Bool) (xs : List A) (f : A → K)
      → over ops (filter p xs) f ≡ over ops xs (λ x. ops.product (f x) (weigh ops (p x)))
  over_kept p [] f = refl
  over_kept {A} p (x ∷ xs) f = by (p x) (over_kept p xs f)
    where
      rest : K
      rest = over ops xs (λ y. ops.product (f y) (weigh ops (p y)))

      by : (b : Bool) → over ops (filter p xs) f ≡ rest
          → over ops (cond b (x ∷ filter p xs) (filter p xs)) f ≡ ops.sum (ops.product (f x) (weigh ops b)) rest
      by true h = ap₂ ops.sum (sym (unit_product (f x))) h
      by false h = h ∙ sym (ap (λ u. ops.sum u rest) (nought_product (f x)) ∙ laws.sum_nought rest)

  pub over_least : {A : Type 0} (xs : List A) (f g : A → K) → ((x : A) → least (f x) (g x)) → least (over ops xs f) (over ops xs g)
  over_least [] f g h = laws.least_refl ops.nought
  over_least (x ∷ xs) f g h = laws.least_sum (f x) (g x) (over ops xs f) (over ops xs g) (h x) (over_least xs f g h)
