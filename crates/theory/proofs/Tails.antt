-- Tails, and what worse tables do to them. Assumes nothing.
use Rattle.std.proofs.Common.{◌≡◌, ℕ, zero, suc, ◌+◌, ◌<◌, ◌≤◌, Bool, true, false, cond, leb, List, [], ◌∷◌, sym, refl, ap, ◌∙◌, subst, ap₂, subst₂, inl, inr, arith}
use Rattle.std.proofs.lemmas.Bool.{cases_lt, cases_Bool, le-leb, lt-leb, leb-true, both_ways}
use Rattle.theory.specs.Semiring.{Ops, Laws}
use Rattle.theory.specs.Sums.{weigh, mean, cell, tail, Below, cells, first}
use Rattle.theory.specs.Walk.{Table, Leg, readings, weight, outcome, scenarios, stepped, next, run, sheet, rest, Stays, Rising, Harder}
use Rattle.theory.specs.Theorems.{Late, NeverBetter, NeverLater, NeverLaterTold}
use Rattle.theory.proofs.Sums.{over_same, nought_product, product_left_comm, over_scaled, over_nought, over_swap, over_kept}
use Rattle.theory.proofs.Pushed.{below_more, below_readings, below_stepped, below_cells, tail_mean, mean_stepped, mean_gathered, sheet_mean, drawn_outcome}

-- p goes on holding, below n
abbrev pub Upward : ℕ → (ℕ → Bool) → Type 0
Upward n p = (x x' : ℕ) → x ≤ x' → x' < n → p x ≡ true → p x' ≡ true

pub first_le : (p : ℕ → Bool) (n : ℕ) → first p n ≤ n
unfolding first
first_le p zero = omega arith
first_le p (suc n) = by (p n) (first_le p n)
  where
    by : (b : Bool) → first p n ≤ n → cond b (first p n) (suc n) ≤ suc n
    by true h = omega arith
    by false h = omega arith

pub first_test : (p : ℕ → Bool) (n x : ℕ) → Upward n p → x < n → p x ≡ leb (first p n) x
unfolding first
first_test p zero x up h = absurd (omega arith)
first_test p (suc n) x up h = by (p n) refl (first_le p n) (λ k. first_test p n x (λ y y' a b c. up y y' a (omega arith) c) k)
  where
    by : (b : Bool) → p n ≡ b → first p n ≤ n → (x < n → p x ≡ leb (first p n) x) → p x ≡ leb (cond b (first p n) (suc n)) x
    by true e le ih = elim (cases_lt x n) [
      | inl k ↦ ih k
      | inr k ↦ up n x k h e ∙ sym (le-leb (first p n) x (omega arith))
    ]
    by false e le ih =
        elim (cases_Bool (p x)) [
          | inl is ↦ absurd (both_ways (p n) e (up x n (omega arith) (omega arith) is))
          | inr isnt ↦ isnt ∙ sym (lt-leb (suc n) x (omega arith))
        ]

module _ {K : Type 0} {ops : Ops K} {least : K → K → Type 0} (laws : Laws ops least) where
  pub mean_same : (n : ℕ) (S : List (ℕ × K)) (f g : ℕ → K) → Below n S → ((x : ℕ) → x < n → f x ≡ g x) → mean ops S f ≡ mean ops S g
  mean_same n [] f g h e = refl
  mean_same n (p ∷ S) f g h e = ap₂ ops.sum (ap (ops.product p.1) (e p.0 h.0)) (mean_same n S f g h.1 e)

  pub mean_least : (n : ℕ) (S : List (ℕ × K)) (f g : ℕ → K) → Below n S → ((x : ℕ) → x < n → least (f x) (g x)) → least (mean ops S f) (mean ops S g)
  mean_least n [] f g h e = laws.least_refl ops.nought
  mean_least n (p ∷ S) f g h e =
      laws.least_sum _ _ _ _ (laws.least_product p.1 p.1 (f p.0) (g p.0) (laws.least_refl p.1) (e p.0 h.0)) (mean_least n S f g h.1 e)

  pub mean_swap : (S X : List (ℕ × K)) (f : ℕ → ℕ → K) → mean ops S (λ x. mean ops X (f x)) ≡ mean ops X (λ t. mean ops S (λ x. f x t))
  mean_swap S X f =
      over_same ops S _ _ (λ p. sym (over_scaled laws p.1 X (λ q. ops.product q.1 (f p.0 q.0))))
      ∙ over_swap laws S X (λ p q. ops.product p.1 (ops.product q.1 (f p.0 q.0)))
      ∙ over_same ops X _ _
      (λ q. over_same ops S _ _ (λ p. product_left_comm laws p.1 q.1 (f p.0 q.0))
      ∙ over_scaled laws q.1 S (λ p. ops.product p.1 (f p.0 q.0)))

  -- the weight where an upward test holds is a tail
  pub mean_first : (n : ℕ) (S : List (ℕ × K)) (p : ℕ → Bool) → Below n S → Upward n p → mean ops S (λ x. weigh ops (p x)) ≡ tail ops S (first p n)
  mean_first n S p h up =
      mean_same n S (λ x. weigh ops (p x)) (λ x. weigh ops (leb (first p n) x)) h (λ x k. ap (weigh ops) (first_test p n x up k))
      ∙ sym (tail_mean laws S (first p n))

  pub tail_beyond : (n : ℕ) (S : List (ℕ × K)) (y : ℕ) → Below n S → n ≤ y → tail ops S y ≡ ops.nought
  tail_beyond n S y h le =
      tail_mean laws S y
      ∙ mean_same n S (λ x. weigh ops (leb y x)) (λ x. ops.nought) h (λ x k. ap (weigh ops) (lt-leb y x (omega arith)))
      ∙ over_same ops S _ (λ p. ops.nought) (λ p. nought_product laws p.1)
      ∙ over_nought laws S

  -- the tail after a step, by the times drawn, and by the states before
  pub tail_by_times : (n : ℕ) (move : ℕ → ℕ → ℕ) (S X : List (ℕ × K)) (y : ℕ) → Rising n move → Below n S
      → tail ops (stepped ops move S X) y ≡ mean ops X (λ t. tail ops S (first (λ x. leb y (move x t)) n))
  tail_by_times n move S X y rising h =
      tail_mean laws (stepped ops move S X) y
      ∙ mean_stepped laws move S X (λ z. weigh ops (leb y z))
      ∙ mean_swap S X (λ x t. weigh ops (leb y (move x t)))
      ∙ over_same ops X _ _ (λ q. ap (ops.product q.1) (mean_first n S (λ x. leb y (move x q.0)) h (up q.0)))
    where
      up : (t : ℕ) → Upward n (λ x. leb y (move x t))
      up t x x' le lt e = le-leb y (move x' t) (omega (arith, leb-true y (move x t) e, rising x x' t t le lt (omega arith)))

  pub tail_by_states : (n k : ℕ) (move : ℕ → ℕ → ℕ) (S X : List (ℕ × K)) (y : ℕ) → Rising n move → Below n S → Below k X
      → tail ops (stepped ops move S X) y ≡ mean ops S (λ x. tail ops X (first (λ t. leb y (move x t)) k))
  tail_by_states n k move S X y rising h times =
      tail_mean laws (stepped ops move S X) y
      ∙ mean_stepped laws move S X (λ z. weigh ops (leb y z))
      ∙ mean_same n S _ _ h (λ x lt. mean_first k X (λ t. leb y (move x t)) times (up x lt))
    where
      up : (x : ℕ) → x < n → Upward k (λ t. leb y (move x t))
      up x lt t t' le below e = le-leb y (move x t') (omega (arith, leb-true y (move x t) e, rising x x t t' (omega arith) lt le))

  pub everywhere : (n : ℕ) (S T : List (ℕ × K)) → Below n S → Below n T → ((x : ℕ) → x < n → least (tail ops S x) (tail ops T x))
      → (x : ℕ) → least (tail ops S x) (tail ops T x)
  everywhere n S T h k worse x = elim (cases_lt x n) [
    | inl lt ↦ worse x lt
    | inr le ↦ subst₂ least (sym (tail_beyond n S x h le)) (sym (tail_beyond n T x k le)) (laws.least_refl ops.nought)
  ]

  -- one argument at a time
  pub step_worse : (n k : ℕ) (move : ℕ → ℕ → ℕ) (S T X Y : List (ℕ × K)) → Rising n move
      → Below n S → Below n T → Below k X → Below k Y
      → ((x : ℕ) → least (tail ops S x) (tail ops T x)) → ((t : ℕ) → least (tail ops X t) (tail ops Y t))
      → (y : ℕ) → least (tail ops (stepped ops move S X) y) (tail ops (stepped ops move T Y) y)
  step_worse n k move S T X Y rising hS hT h_x h_y states times y =
      laws.least_trans _ (tail ops (stepped ops move S Y) y) _
      (subst₂ least (sym (tail_by_states n k move S X y rising hS h_x)) (sym (tail_by_states n k move S Y y rising hS h_y))
      (mean_least n S _ _ hS (λ x lt. times (first (λ t. leb y (move x t)) k))))
      (subst₂ least (sym (tail_by_times n move S Y y rising hS)) (sym (tail_by_times n move T Y y rising hT))
      (mean_least k Y _ _ h_y (λ t lt. states (first (λ x. leb y (move x t)) n))))

  pub rest_next : (n : ℕ) (l : Leg) (s : ℕ → K) (y : ℕ) → ((x t : ℕ) → x < n → l.move x t < n)
      → rest ops n (next ops n l s) y ≡ tail ops (stepped ops l.move (cells n s) (readings ops l.table)) y
  rest_next n l s y stays =
      let S = stepped ops l.move (cells n s) (readings ops l.table) in
      tail_mean laws (cells n (next ops n l s)) y
      ∙ mean_gathered laws n S (λ z. weigh ops (leb y z))
      (below_stepped ops n l.move (cells n s) (readings ops l.table) stays (below_cells n n s (omega arith)))
      ∙ sym (tail_mean laws S y)

  run_worse : (s t : ℕ → K) (ls ks : List Leg) → Stays 257 ls → Harder ops least ls ks
      → ((y : ℕ) → least (rest ops 257 s y) (rest ops 257 t y))
      → (y : ℕ) → least (rest ops 257 (run ops 257 ls s) y) (rest ops 257 (run ops 257 ks t) y)
  run_worse s t [] [] stays harder worse y = worse y
  run_worse s t [] (k ∷ ks) stays harder worse y = absurd harder
  run_worse s t (l ∷ ls) [] stays harder worse y = absurd harder
  run_worse s t (l ∷ ls) (k ∷ ks) stays harder worse y =
      run_worse (next ops 257 l s) (next ops 257 k t) ls ks stays.1 harder.5
      (λ z. subst₂ least
      (sym (rest_next 257 l s z stays.0))
      (sym (rest_next 257 k t z (subst (λ (m : ℕ → ℕ → ℕ). (x t : ℕ) → x < 257 → m x t < 257) harder.0 stays.0)))
      (subst (λ (m : ℕ → ℕ → ℕ). least (tail ops (stepped ops l.move (cells 257 s) X) z) (tail ops (stepped ops m (cells 257 t) Y) z)) harder.0
      (step_worse 257 256 l.move (cells 257 s) (cells 257 t) X Y harder.1
      (below_cells 257 257 s (omega arith)) (below_cells 257 257 t (omega arith)) h_x h_y worse
      (everywhere 256 X Y h_x h_y harder.4) z)))
      y
    where
      X : List (ℕ × K)
      X = readings ops l.table

      Y : List (ℕ × K)
      Y = readings ops k.table

      h_x : Below 256 X
      h_x = below_readings ops 256 l.table harder.2

      h_y : Below 256 Y
      h_y = below_readings ops 256 k.table harder.3

  pub never_better : NeverBetter ops least
  never_better s t legs eased stays harder worse =
      run_worse s t legs eased stays harder
      (everywhere 257 (cells 257 s) (cells 257 t) (below_cells 257 257 s (omega arith)) (below_cells 257 257 t (omega arith)) worse)

  pub rest_opening : (opening : Table) (y : ℕ) → Below 256 opening
      → rest ops 257 (λ v. cell ops (readings ops opening) v) y ≡ tail ops (readings ops opening) y
  rest_opening opening y h =
      tail_mean laws (cells 257 (λ v. cell ops (readings ops opening) v)) y
      ∙ mean_gathered laws 257 (readings ops opening) (λ z. weigh ops (leb y z))
      (below_readings ops 257 opening (below_more 256 257 opening (omega arith) h))
      ∙ sym (tail_mean laws (readings ops opening) y)

  pub never_later : NeverLater ops least
  never_later opening lighter legs eased h k worse stays harder D =
      run_worse _ _ legs eased stays harder
      (λ y. subst₂ least (sym (rest_opening opening y h)) (sym (rest_opening lighter y k))
      (everywhere 256 (readings ops opening) (readings ops lighter) (below_readings ops 256 opening h) (below_readings ops 256 lighter k) worse y))
      (D + 1)

  pub late : Late ops
  late opening legs h stays D =
      let f : ℕ → K = λ x. weigh ops (leb (D + 1) x) in
      tail_mean laws (cells 257 (sheet ops 257 opening legs)) (D + 1)
      ∙ sheet_mean laws 257 opening legs f (below_more 256 257 opening (omega arith) h) stays
      ∙ sym (drawn_outcome laws opening legs f)
      ∙ sym (over_kept laws (λ d. leb (D + 1) (outcome legs d)) (scenarios opening legs) (weight ops))

  stays_eased : (ls ks : List Leg) → Harder ops least ls ks → Stays 257 ls → Stays 257 ks
  stays_eased [] [] harder stays = tt
  stays_eased [] (k ∷ ks) harder stays = absurd harder
  stays_eased (l ∷ ls) [] harder stays = absurd harder
  stays_eased (l ∷ ls) (k ∷ ks) harder stays =
      (subst (λ (m : ℕ → ℕ → ℕ). (x t : ℕ) → x < 257 → m x t < 257) harder.0 stays.0, stays_eased ls ks harder.5 stays.1)

  pub never_later_told : NeverLaterTold ops least
  never_later_told opening lighter legs eased h k worse stays harder D =
      subst₂ least (late opening legs h stays D) (late lighter eased k (stays_eased legs eased harder stays) D)
      (never_later opening lighter legs eased h k worse stays harder D)
