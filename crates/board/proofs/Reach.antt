-- When the counted jobs are released, and in which order.
use Rattle.std.proofs.Common.{◌≡◌, ℕ, zero, suc, ◌+◌, ◌<◌, ◌≤◌, ◌&&◌, List, [], ◌∷◌, ◌++◌, map, Some, None, Option, sym, subst, arith}
use Rattle.std.proofs.lemmas.Bool.{cond_both}
use Rattle.scenarios.specs.Theorems.{InOrder, AllBefore}
use Rattle.board.specs.Model.{Entry}
use Rattle.board.specs.Jobs.{Rule, Job, ahead, releases, ahead_at, ahead_from, ahead_in}
use Rattle.board.specs.Questions.{as_counted}

-- released from low on and before high, one after another
abbrev pub Rises : ℕ → ℕ → List Job → Type 0
Rises low high [] = Unit {0}
Rises low high (k ∷ ks) = (low ≤ k.release) × (k.release < high) × Rises k.release high ks

pub rises_later : (low mid high : ℕ) (ks : List Job) → low ≤ mid → Rises mid high ks → Rises low high ks
rises_later low mid high [] le h = tt
rises_later low mid high (k ∷ ks) le h = (omega (arith, h.0), h.1, h.2)

pub rises_join : (low mid high : ℕ) (xs ys : List Job) → low ≤ mid → mid ≤ high → Rises low mid xs → Rises mid high ys → Rises low high (xs ++ ys)
rises_join low mid high [] ys le lh h g = rises_later low mid high ys le g
rises_join low mid high (x ∷ xs) ys le lh h g =
    (h.0, omega (arith, h.1), rises_join x.release mid high xs ys (omega (arith, h.1)) lh h.2 g)

module _ (rule : Rule) (j : Job) where
  rises_at : (p : ℕ) (x : Option Entry) (t : ℕ) → Rises t (t + 1) (ahead_at rule j p x t)
  rises_at p None t = tt
  rises_at p (Some e) t =
      cond_both (releases e t && ahead rule (record { place = p; entry = e; release = t }) j) (record { place = p; entry = e; release = t } ∷ []) [] (Rises t (t + 1))
      (λ _. (omega arith, omega arith, tt)) (λ _. tt)

  same_tick : (t : ℕ) (xs ys : List Job) → Rises t (t + 1) xs → Rises t (t + 1) ys → Rises t (t + 1) (xs ++ ys)
  same_tick t [] ys h g = g
  same_tick t (x ∷ xs) ys h g =
      let at : x.release ≡ t = omega (arith, h.0, h.1) in
      let P : ℕ → Type 0 = λ r. Rises r (t + 1) (xs ++ ys) in
      let Q : ℕ → Type 0 = λ r. Rises r (t + 1) xs in
      (h.0, h.1, subst P (sym at) (same_tick t xs ys (subst Q at h.2) g))

  rises_from : (p : ℕ) (xs : List (Option Entry)) (t : ℕ) → Rises t (t + 1) (ahead_from rule j p xs t)
  rises_from p [] t = tt
  rises_from p (x ∷ xs) t = same_tick t (ahead_at rule j p x t) (ahead_from rule j (p + 1) xs t) (rises_at p x t) (rises_from (p + 1) xs t)

  pub rises_in : (ps : List (Option Entry)) (n t : ℕ) → Rises t (t + n) (ahead_in rule ps j n t)
  unfolding ahead_in
  rises_in ps zero t = tt
  rises_in ps (suc n) t =
      let P : ℕ → Type 0 = λ h. Rises (t + 1) h (ahead_in rule ps j n (t + 1)) in
      let e : t + 1 + n ≡ t + suc n = omega arith in
      rises_join t (t + 1) (t + suc n) (ahead_from rule j 0 ps t) (ahead_in rule ps j n (t + 1)) (omega arith) (omega arith) (rises_from 0 ps t) (subst P e (rises_in ps n (t + 1)))

-- in the words of a question
pub in_order : (rule : Rule) (low high : ℕ) (ks : List Job) → Rises low high ks → InOrder low (map (as_counted rule) ks)
in_order rule low high [] h = tt
in_order rule low high (k ∷ ks) h = (h.0, in_order rule k.release high ks h.2)

pub all_before : (rule : Rule) (low high end : ℕ) (ks : List Job) → high ≤ end → Rises low high ks → AllBefore end (map (as_counted rule) ks)
all_before rule low high end [] le h = tt
all_before rule low high end (k ∷ ks) le h = (omega (arith, h.1), all_before rule k.release high end ks le h.2)
