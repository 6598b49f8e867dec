-- The sheet holds the weights of the scenarios. Assumes nothing.
use Rattle.std.proofs.Common.{◌≡◌, ℕ, zero, suc, ◌<◌, ◌≤◌, eqb, leb, List, [], ◌∷◌, ◌++◌, map, sym, refl, ap, ◌∙◌, ap₂, inl, inr, arith}
use Rattle.std.proofs.lemmas.Bool.{cases_eq, eq-eqb, ne_eqb}
use Rattle.std.proofs.lemmas.Bool.Decides.{nat_tests}
use Rattle.std.specs.List.{filter, flat_map}
use Rattle.theory.specs.Semiring.{Ops, Laws}
use Rattle.theory.specs.Sums.{over, weigh, mean, cell, tail, Below, down, cells}
use Rattle.theory.specs.Walk.{Table, Leg, readings, draws, weight, onward, outcome, scenarios, stepped, next, run, sheet, Stays}
use Rattle.theory.specs.Theorems.{Pushforward}
use Rattle.theory.proofs.Sums.{over_same, over_map, nought_sum, distributes_right, over_flat, over_scaled, over_nought, over_sum, over_kept}

eqb_sym : (a b : ℕ) → eqb a b ≡ eqb b a
eqb_sym a b = grind (arith, nat_tests)

-- STATES BELOW n
pub below_append : {B : Type 0} (n : ℕ) (xs ys : List (ℕ × B)) → Below n xs → Below n ys → Below n (xs ++ ys)
below_append n [] ys h k = k
below_append n (x ∷ xs) ys h k = (h.0, below_append n xs ys h.1 k)

pub below_map : {A B : Type 0} (n : ℕ) (f : A → ℕ × B) (xs : List A) → ((x : A) → (f x).0 < n) → Below n (map f xs)
below_map n f [] h = tt
below_map n f (x ∷ xs) h = (h x, below_map n f xs h)

pub below_more : {B : Type 0} (n m : ℕ) (xs : List (ℕ × B)) → n ≤ m → Below n xs → Below m xs
below_more n m [] h k = tt
below_more n m (x ∷ xs) h k = (omega (arith, k.0), below_more n m xs h k.1)

pub below_readings : {K : Type 0} (ops : Ops K) (n : ℕ) (t : Table) → Below n t → Below n (readings ops t)
below_readings ops n [] h = tt
below_readings ops n (q ∷ t) h = (h.0, below_readings ops n t h.1)

pub below_stepped : {K : Type 0} (ops : Ops K) (n : ℕ) (move : ℕ → ℕ → ℕ) (S X : List (ℕ × K))
    → ((x t : ℕ) → x < n → move x t < n) → Below n S → Below n (stepped ops move S X)
below_stepped ops n move [] X stays h = tt
below_stepped ops n move (p ∷ S) X stays h =
    below_append n (map (λ q. (move p.0 q.0, ops.product p.1 q.1)) X) (stepped ops move S X)
    (below_map n _ X (λ q. stays p.0 q.0 h.0))
    (below_stepped ops n move S X stays h.1)

pub below_cells : {K : Type 0} (m n : ℕ) (s : ℕ → K) → m ≤ n → Below n (cells m s)
unfolding down
below_cells zero n s h = tt
below_cells (suc m) n s h = (h, below_cells m n s (omega arith))

-- what a test function of the outcome comes to, from a state x on
abbrev pub ahead : {K : Type 0} → Ops K → List Leg → (ℕ → K) → ℕ → K
ahead ops [] f x = f x
ahead ops (l ∷ ls) f x = mean ops (readings ops l.table) (λ t. ahead ops ls f (l.move x t))

module _ {K : Type 0} {ops : Ops K} {least : K → K → Type 0} (laws : Laws ops least) where
  pub cell_mean : (S : List (ℕ × K)) (v : ℕ) → cell ops S v ≡ mean ops S (λ x. weigh ops (eqb x v))
  cell_mean S v = over_kept laws (λ p. eqb p.0 v) S (λ p. p.1)

  pub tail_mean : (S : List (ℕ × K)) (y : ℕ) → tail ops S y ≡ mean ops S (λ x. weigh ops (leb y x))
  tail_mean S y = over_kept laws (λ p. leb y p.0) S (λ p. p.1)

  pub mean_stepped : (move : ℕ → ℕ → ℕ) (S X : List (ℕ × K)) (f : ℕ → K)
      → mean ops (stepped ops move S X) f ≡ mean ops S (λ x. mean ops X (λ t. f (move x t)))
  mean_stepped move S X f =
      over_flat laws S (λ p. map (λ q. (move p.0 q.0, ops.product p.1 q.1)) X) (λ r. ops.product r.1 (f r.0))
      ∙ over_same ops S _ _
      (λ p. over_map ops X _ _
      ∙ over_same ops X _ _ (λ q. laws.product_assoc p.1 q.1 (f (move p.0 q.0)))
      ∙ over_scaled laws p.1 X (λ q. ops.product q.1 (f (move p.0 q.0))))

  point_none : (x n : ℕ) (f : ℕ → K) → n ≤ x → over ops (down n) (λ v. ops.product (weigh ops (eqb x v)) (f v)) ≡ ops.nought
  unfolding down
  point_none x zero f h = refl
  point_none x (suc n) f h =
      ap₂ ops.sum
      (ap (λ b. ops.product (weigh ops b) (f n)) (ne_eqb x n (λ e. omega arith)) ∙ laws.product_nought (f n))
      (point_none x n f (omega arith))
      ∙ laws.sum_nought ops.nought

  -- a sum that only one state counts in
  pub point : (x n : ℕ) (f : ℕ → K) → x < n → over ops (down n) (λ v. ops.product (weigh ops (eqb x v)) (f v)) ≡ f x
  unfolding down
  point x zero f h = absurd (omega arith)
  point x (suc n) f h = elim (cases_eq x n) [
    | inl e ↦
        ap₂ ops.sum (ap (λ b. ops.product (weigh ops b) (f n)) (eq-eqb x n e) ∙ laws.product_unit (f n)) (point_none x n f (omega arith))
        ∙ nought_sum laws (f n) ∙ ap f (sym e)
    | inr ne ↦
        ap₂ ops.sum (ap (λ b. ops.product (weigh ops b) (f n)) (ne_eqb x n ne) ∙ laws.product_nought (f n)) (point x n f (omega arith))
        ∙ laws.sum_nought (f x)
  ]

  pub mean_cells : (n : ℕ) (s f : ℕ → K) → mean ops (cells n s) f ≡ over ops (down n) (λ x. ops.product (s x) (f x))
  mean_cells n s f = over_map ops (down n) (λ x. (x, s x)) (λ p. ops.product p.1 (f p.0))

  -- a spread and its sheet come to the same
  gathered : (n : ℕ) (S : List (ℕ × K)) (f : ℕ → K) → Below n S
      → over ops (down n) (λ v. ops.product (mean ops S (λ x. weigh ops (eqb x v))) (f v)) ≡ mean ops S f
  gathered n [] f h = over_same ops (down n) _ (λ v. ops.nought) (λ v. laws.product_nought (f v)) ∙ over_nought laws (down n)
  gathered n (p ∷ S) f h =
      over_same ops (down n) _
      (λ v. ops.sum (ops.product p.1 (ops.product (weigh ops (eqb p.0 v)) (f v))) (ops.product (mean ops S (λ x. weigh ops (eqb x v))) (f v)))
      (λ v. distributes_right laws (ops.product p.1 (weigh ops (eqb p.0 v))) (mean ops S (λ x. weigh ops (eqb x v))) (f v)
      ∙ ap (λ u. ops.sum u (ops.product (mean ops S (λ x. weigh ops (eqb x v))) (f v))) (laws.product_assoc p.1 (weigh ops (eqb p.0 v)) (f v)))
      ∙ over_sum laws (down n) (λ v. ops.product p.1 (ops.product (weigh ops (eqb p.0 v)) (f v))) (λ v. ops.product (mean ops S (λ x. weigh ops (eqb x v))) (f v))
      ∙ ap₂ ops.sum
      (over_scaled laws p.1 (down n) (λ v. ops.product (weigh ops (eqb p.0 v)) (f v)) ∙ ap (ops.product p.1) (point p.0 n f h.0))
      (gathered n S f h.1)

  pub mean_gathered : (n : ℕ) (S : List (ℕ × K)) (f : ℕ → K) → Below n S → mean ops (cells n (λ v. cell ops S v)) f ≡ mean ops S f
  mean_gathered n S f h =
      mean_cells n (λ v. cell ops S v) f
      ∙ over_same ops (down n) _ _ (λ v. ap (λ u. ops.product u (f v)) (cell_mean S v))
      ∙ gathered n S f h

  -- a cell, read back from the sheet's spread
  pub cell_back : (n : ℕ) (s : ℕ → K) (v : ℕ) → v < n → mean ops (cells n s) (λ x. weigh ops (eqb x v)) ≡ s v
  cell_back n s v h =
      mean_cells n s (λ x. weigh ops (eqb x v))
      ∙ over_same ops (down n) _ _ (λ x. laws.product_comm (s x) (weigh ops (eqb x v)) ∙ ap (λ b. ops.product (weigh ops b) (s x)) (eqb_sym x v))
      ∙ point v n s h

  pub mean_next : (n : ℕ) (l : Leg) (s f : ℕ → K) → ((x t : ℕ) → x < n → l.move x t < n)
      → mean ops (cells n (next ops n l s)) f ≡ mean ops (cells n s) (λ x. mean ops (readings ops l.table) (λ t. f (l.move x t)))
  mean_next n l s f stays =
      let X = readings ops l.table in
      mean_gathered n (stepped ops l.move (cells n s) X) f (below_stepped ops n l.move (cells n s) X stays (below_cells n n s (omega arith)))
      ∙ mean_stepped l.move (cells n s) X f

  pub mean_run : (n : ℕ) (ls : List Leg) (s f : ℕ → K) → Stays n ls → mean ops (cells n (run ops n ls s)) f ≡ mean ops (cells n s) (ahead ops ls f)
  mean_run n [] s f stays = refl
  mean_run n (l ∷ ls) s f stays = mean_run n ls (next ops n l s) f stays.1 ∙ mean_next n l s (ahead ops ls f) stays.0

  -- one more table to draw from
  drawn : (t : Table) (D : List Table) (G : Table → K)
      → over ops (flat_map (λ q. map (λ d. q ∷ d) D) t) (λ e. ops.product (weight ops e) (G e))
      ≡ over ops t (λ q. ops.product (ops.read q.1) (over ops D (λ d. ops.product (weight ops d) (G (q ∷ d)))))
  drawn t D G =
      over_flat laws t (λ q. map (λ d. q ∷ d) D) (λ e. ops.product (weight ops e) (G e))
      ∙ over_same ops t _ _
      (λ q. over_map ops D (λ d. q ∷ d) (λ e. ops.product (weight ops e) (G e))
      ∙ over_same ops D _ _ (λ d. laws.product_assoc (ops.read q.1) (weight ops d) (G (q ∷ d)))
      ∙ over_scaled laws (ops.read q.1) D (λ d. ops.product (weight ops d) (G (q ∷ d))))

  drawn_ahead : (ls : List Leg) (f : ℕ → K) (x : ℕ)
      → over ops (draws (map (λ l. l.table) ls)) (λ d. ops.product (weight ops d) (f (onward ls d x))) ≡ ahead ops ls f x
  drawn_ahead [] f x = nought_sum laws (ops.product ops.unit (f x)) ∙ laws.product_unit (f x)
  drawn_ahead (l ∷ ls) f x =
      drawn l.table (draws (map (λ k. k.table) ls)) (λ d. f (onward (l ∷ ls) d x))
      ∙ over_same ops l.table _ _ (λ q. ap (ops.product (ops.read q.1)) (drawn_ahead ls f (l.move x q.0)))
      ∙ sym (over_map ops l.table (λ q. (q.0, ops.read q.1)) (λ p. ops.product p.1 (ahead ops ls f (l.move x p.0))))

  pub drawn_outcome : (opening : Table) (ls : List Leg) (f : ℕ → K)
      → over ops (scenarios opening ls) (λ d. ops.product (weight ops d) (f (outcome ls d))) ≡ mean ops (readings ops opening) (ahead ops ls f)
  drawn_outcome opening ls f =
      drawn opening (draws (map (λ k. k.table) ls)) (λ d. f (outcome ls d))
      ∙ over_same ops opening _ _ (λ q. ap (ops.product (ops.read q.1)) (drawn_ahead ls f q.0))
      ∙ sym (over_map ops opening (λ q. (q.0, ops.read q.1)) (λ p. ops.product p.1 (ahead ops ls f p.0)))

  pub sheet_mean : (n : ℕ) (opening : Table) (ls : List Leg) (f : ℕ → K) → Below n opening → Stays n ls
      → mean ops (cells n (sheet ops n opening ls)) f ≡ mean ops (readings ops opening) (ahead ops ls f)
  sheet_mean n opening ls f within stays =
      mean_run n ls (λ v. cell ops (readings ops opening) v) f stays
      ∙ mean_gathered n (readings ops opening) (ahead ops ls f) (below_readings ops n opening within)

  pub pushed : (n : ℕ) (opening : Table) (ls : List Leg) → Below n opening → Stays n ls → (v : ℕ) → v < n
      → sheet ops n opening ls v ≡ over ops (filter (λ d. eqb (outcome ls d) v) (scenarios opening ls)) (weight ops)
  pushed n opening ls within stays v h =
      let f : ℕ → K = λ x. weigh ops (eqb x v) in
      sym (cell_back n (sheet ops n opening ls) v h)
      ∙ sheet_mean n opening ls f within stays
      ∙ sym (drawn_outcome opening ls f)
      ∙ sym (over_kept laws (λ d. eqb (outcome ls d) v) (scenarios opening ls) (weight ops))

  pub pushforward : Pushforward ops
  pushforward opening legs within stays v h = pushed 257 opening legs (below_more 256 257 opening (omega arith) within) stays v h
