-- The counted jobs slot by slot, and over ticks at which no job is released.
use Rattle.std.proofs.Common.{◌≡◌, ℕ, zero, suc, ◌+◌, ◌-◌, ◌<◌, ◌≤◌, true, not, List, [], ◌∷◌, ◌++◌, length, get_or, drop, Some, None, Option, sym, refl, ap, ◌∙◌, subst, ⊎_elim, arith}
use Rattle.std.proofs.lemmas.List.{at_drop_more, drop_all, append_assoc, append-nil}
use Rattle.std.proofs.lemmas.Bool.{cases_lt, and_left, cond-true, cond-false, lt-ltb, le-ltb, ne_eqb, eq-eqb, both_ways, not_from_true, not-true}
use Rattle.board.specs.Model.{Entry}
use Rattle.board.specs.Jobs.{Rule, Job, due, releases, ahead_at, ahead_from, ahead_in, counted}
use Rattle.board.specs.Found.{own, counted_in, left_from, quiet, Stands, Skips}

module _ (rule : Rule) (ps : List (Option Entry)) (j : Job) where
  quiet_at : (q : ℕ) (x : Option Entry) (t : ℕ) → quiet x t ≡ true → ahead_at rule j q x t ≡ []
  quiet_at q None t h = refl
  quiet_at q (Some e) t h = cond-false _ _ _ (and_left (releases e t) _ (not-true (releases e t) h))

  quiet_none : (q : ℕ) (xs : List (Option Entry)) (t : ℕ) → ((p : ℕ) → p < length xs → quiet (get_or xs p None) t ≡ true) → ahead_from rule j q xs t ≡ []
  quiet_none q [] t h = refl
  quiet_none q (x ∷ xs) t h =
      ap (λ ys. ys ++ ahead_from rule j (q + 1) xs t) (quiet_at q x t (h 0 (omega arith)))
      ∙ quiet_none (q + 1) xs t (λ p lt. h (suc p) (omega arith))

  -- no counted job is released at tick t
  abbrev Still : ℕ → Type 0
  Still t = (ahead_from rule j 0 ps t ≡ []) × (own j t ≡ [])

  still_one : (n t : ℕ) → Still t → counted_in rule ps j (suc n) t ≡ counted_in rule ps j n (t + 1)
  unfolding counted_in
  still_one n t h =
      ap (λ ys. ys ++ (own j t ++ counted_in rule ps j n (t + 1))) h.0 ∙ ap (λ ys. ys ++ counted_in rule ps j n (t + 1)) h.1

  skip : (n k t : ℕ) → n ≤ k → ((i : ℕ) → t ≤ i → i < t + n → Still i) → counted_in rule ps j k t ≡ counted_in rule ps j (k - n) (t + n)
  skip zero k t le h =
      let a : k ≡ k - zero = omega arith in
      let b : t ≡ t + zero = omega arith in
      ap (λ m. counted_in rule ps j m t) a ∙ ap (counted_in rule ps j (k - zero)) b
  skip (suc n) zero t le h = absurd (omega arith)
  skip (suc n) (suc k) t le h =
      let a : k - n ≡ suc k - suc n = omega arith in
      let b : t + 1 + n ≡ t + suc n = omega arith in
      still_one k t (h t (omega arith) (omega arith))
      ∙ skip n k (t + 1) (omega arith) (λ i l u. h i (omega arith) (omega arith))
      ∙ ap (λ m. counted_in rule ps j m (t + 1 + n)) a
      ∙ ap (counted_in rule ps j (suc k - suc n)) b

  -- a tick without a release is not that of the job
  still : length ps ≡ 16 → Stands ps j → (t : ℕ) → ((p : ℕ) → p < 16 → quiet (get_or ps p None) t ≡ true) → Still t
  still long s t h =
      let other : t ≡ j.release → ⊥ = λ e.
      both_ways (not (releases j.entry j.release)) (not_from_true _ s.released)
      (ap (λ x. not (releases j.entry x)) (sym e) ∙ (ap (λ x. quiet x t) (sym s.at_place) ∙ h j.place s.place_low)) in
      (quiet_none 0 ps t (λ p lt. h p (omega arith)), cond-false _ _ _ (ne_eqb t j.release other))

  jump : (from r : ℕ) → length ps ≡ 16 → Stands ps j → Skips ps from (due j) r → counted_in rule ps j (due j - from) from ≡ counted_in rule ps j (due j - r) r
  jump from r long s h =
      let low = h.low in
      let high = h.high in
      let a : due j - from - (r - from) ≡ due j - r = omega arith in
      let b : from + (r - from) ≡ r = omega arith in
      skip (r - from) (due j - from) from (omega arith) (λ i l u. still long s i (λ p lt. h.none p lt i l (omega arith)))
      ∙ ap (λ m. counted_in rule ps j m (from + (r - from))) a
      ∙ ap (counted_in rule ps j (due j - r)) b

  -- from the start of a tick
  pub left_start : (t : ℕ) → t ≤ due j → left_from rule ps j t 0 ≡ counted_in rule ps j (due j - t) t
  unfolding left_from counted_in
  left_start t le =
      ⊎_elim
      (λ (lt : t < due j).
      let e : suc (due j - (t + 1)) ≡ due j - t = omega arith in
      cond-true _ _ _ (lt-ltb t (due j) lt) ∙ ap (λ m. counted_in rule ps j m t) e)
      (λ (ge : due j ≤ t).
      let e : zero ≡ due j - t = omega arith in
      cond-false _ _ _ (le-ltb t (due j) ge) ∙ ap (λ m. counted_in rule ps j m t) e)
      (cases_lt t (due j))

  own_none : (t : ℕ) → (t ≡ j.release → ⊥) → own j t ≡ []
  own_none t other = cond-false _ _ _ (ne_eqb t j.release other)

  -- after its release the job itself is not met again
  after_own : (n t : ℕ) → j.release < t → counted_in rule ps j n t ≡ ahead_in rule ps j n t
  unfolding counted_in ahead_in
  after_own zero t lt = refl
  after_own (suc n) t lt =
      ap (λ ys. ahead_from rule j 0 ps t ++ (ys ++ counted_in rule ps j n (t + 1))) (own_none t (λ e. omega arith))
      ∙ ap (λ ys. ahead_from rule j 0 ps t ++ ys) (after_own n (t + 1) (omega arith))

  -- with k ticks to go to its release, and m after it
  around_own : (k m t : ℕ) → t + k ≡ j.release → counted_in rule ps j (suc (k + m)) t ≡ ahead_in rule ps j (suc k) t ++ (j ∷ ahead_in rule ps j m (j.release + 1))
  unfolding counted_in ahead_in
  around_own zero m t e =
      let here : t ≡ j.release = omega arith in
      let zm : zero + m ≡ m = omega arith in
      ap (λ ys. ahead_from rule j 0 ps t ++ (ys ++ counted_in rule ps j (zero + m) (t + 1))) (cond-true _ _ _ (eq-eqb t j.release here))
      ∙ ap (λ n. ahead_from rule j 0 ps t ++ (j ∷ counted_in rule ps j n (t + 1))) zm
      ∙ ap (λ ys. ahead_from rule j 0 ps t ++ (j ∷ ys)) (after_own m (t + 1) (omega arith) ∙ ap (λ x. ahead_in rule ps j m (x + 1)) here)
      ∙ ap (λ ys. ys ++ (j ∷ ahead_in rule ps j m (j.release + 1))) (sym (append-nil (ahead_from rule j 0 ps t)))
  around_own (suc k) m t e =
      let s : suc k + m ≡ suc (k + m) = omega arith in
      ap (λ ys. ahead_from rule j 0 ps t ++ (ys ++ counted_in rule ps j (suc k + m) (t + 1))) (own_none t (λ x. omega arith))
      ∙ ap (λ n. ahead_from rule j 0 ps t ++ counted_in rule ps j n (t + 1)) s
      ∙ ap (λ ys. ahead_from rule j 0 ps t ++ ys) (around_own k m (t + 1) (omega arith))
      ∙ sym (append_assoc (ahead_from rule j 0 ps t) (ahead_in rule ps j (suc k) (t + 1)) (j ∷ ahead_in rule ps j m (j.release + 1)))

  all_counted : 1 ≤ j.entry.deadline → counted_in rule ps j (due j) 0 ≡ counted rule ps j
  unfolding counted
  all_counted pos =
      let a = j.release in
      let m = j.entry.deadline - 1 in
      let n : due j ≡ suc (a + m) = omega arith in
      let z : 0 + a ≡ a = omega arith in
      let b : suc a ≡ a + 1 = omega arith in
      ap (λ x. counted_in rule ps j x 0) n ∙ around_own a m 0 z ∙ ap (λ x. ahead_in rule ps j x 0 ++ (j ∷ ahead_in rule ps j m (a + 1))) b

  pub left_first : (r : ℕ) → length ps ≡ 16 → Stands ps j → Skips ps 0 (due j) r → left_from rule ps j r 0 ≡ counted rule ps j
  left_first r long s h =
      let high = h.high in
      let z : due j - 0 ≡ due j = omega arith in
      left_start r high ∙ sym (jump 0 r long s h) ∙ ap (λ m. counted_in rule ps j m 0) z ∙ all_counted s.deadline_low

  -- one place of a tick
  pub left_place : (t p : ℕ) → t < due j → p < length ps → left_from rule ps j t p ≡ ahead_at rule j p (get_or ps p None) t ++ left_from rule ps j t (p + 1)
  unfolding left_from
  left_place t p lt here =
      let rest = own j t ++ counted_in rule ps j (due j - (t + 1)) (t + 1) in
      let on = lt-ltb t (due j) lt in
      cond-true _ _ _ on
      ∙ ap (λ ys. ys ++ rest) (at_drop_more (λ xs. ahead_from rule j p xs t) ps p None here)
      ∙ append_assoc (ahead_at rule j p (get_or ps p None) t) (ahead_from rule j (p + 1) (drop (p + 1) ps) t) rest
      ∙ ap (λ ys. ahead_at rule j p (get_or ps p None) t ++ ys) (sym (cond-true _ _ _ on))

  -- after the places of a tick, the job itself and the next tick with a release
  left_own : (t p r : ℕ) → t < due j → length ps ≤ p → length ps ≡ 16 → Stands ps j → Skips ps (t + 1) (due j) r → left_from rule ps j t p ≡ own j t ++ left_from rule ps j r 0
  unfolding left_from
  left_own t p r lt past long s h =
      let rest = own j t ++ counted_in rule ps j (due j - (t + 1)) (t + 1) in
      cond-true _ _ _ (lt-ltb t (due j) lt)
      ∙ ap (λ xs. ahead_from rule j p xs t ++ rest) (drop_all p ps past)
      ∙ ap (λ ys. own j t ++ ys) (jump (t + 1) r long s h ∙ sym (left_start r h.high))

  -- the slot after the places, where the job itself is found or nothing is
  module _ (t p r d : ℕ) (lt : t < due j) (past : 16 ≤ p) (long : length ps ≡ 16) (s : Stands ps j) (same : d ≡ due j) (skip : Skips ps (t + 1) d r) where
    skips : Skips ps (t + 1) (due j) r
    skips = subst (λ n. Skips ps (t + 1) n r) same skip

    pub own_found : (xs : List Job) → own j t ≡ xs → left_from rule ps j t p ≡ xs ++ left_from rule ps j r 0
    own_found xs is = left_own t p r lt (omega arith) long s skips ∙ ap (λ ys. ys ++ left_from rule ps j r 0) is

  pub left_none : (t p : ℕ) → due j ≤ t → left_from rule ps j t p ≡ []
  unfolding left_from
  left_none t p ge = cond-false _ _ _ (le-ltb t (due j) ge)
