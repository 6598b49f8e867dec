-- The first number that passes, from its description.
use Rattle.std.proofs.Common.{◌≡◌, ℕ, zero, suc, ◌+◌, ◌%◌, ◌<◌, ◌≤◌, true, false, cond, ◌&&◌, eqb, List, length, get_or, drop, Some, None, Option, sym, ap, ◌∙◌, ⊎_elim, mod-eq_of_lt, arith}
use native.Mathlib.Nat.{mod-eq-zero_of_dvd, dvd_trans, dvd_of_mod-eq-zero}
use Rattle.std.proofs.lemmas.Bool.{cases_order, cases_lt, both_ways, eqb-true, eq-eqb, and_parts}
use Rattle.board.specs.Model.{Entry, divided, first_divided, hyperperiod}
use Rattle.board.proofs.Steps.{at_read, first_ge}
use Rattle.board.proofs.Least.{none_before, found_passes}

pub first_le : (ps : List (Option Entry)) (n a : ℕ) → first_divided ps n a ≤ a + n
unfolding first_divided
first_le ps zero a = omega arith
first_le ps (suc n) a =
    let r = first_le ps n (a + 1) in
    elim (divided ps a) as (λ b. cond b a (first_divided ps n (a + 1)) ≤ a + suc n) [ true ↦ omega arith | false ↦ omega arith ]

pub first_is : (ps : List (Option Entry)) (n a h : ℕ) → a ≤ h → h < a + n → divided ps h ≡ true → ((k : ℕ) → a ≤ k → k < h → divided ps k ≡ true → ⊥) → a ≤ first_divided ps n a → first_divided ps n a ≡ h
first_is ps n a h le lt e least ge =
    let f = first_divided ps n a in
    ⊎_elim (λ (q : f ≡ h). q)
    (⊎_elim
    (λ (q : f < h). absurd (least f ge q (found_passes ps n a (omega arith))))
    (λ (q : h < f). absurd (both_ways (divided ps h) (none_before ps n a h le q) e)))
    (cases_order f h)

pub first_none : (ps : List (Option Entry)) (n a : ℕ) → ((k : ℕ) → a ≤ k → k < a + n → divided ps k ≡ true → ⊥) → a ≤ first_divided ps n a → first_divided ps n a ≡ a + n
first_none ps n a none ge =
    let f = first_divided ps n a in
    let u = first_le ps n a in
    ⊎_elim (λ (q : f < a + n). absurd (none f ge q (found_passes ps n a q))) (λ (q : a + n ≤ f). omega arith) (cases_lt f (a + n))

-- one more period, at place i
module _ (ps : List (Option Entry)) (i h : ℕ) (e : Entry) (lt : i < length ps) (is : Some e ≡ get_or ps i None) where
  divided_here : (k : ℕ) → divided (drop i ps) k ≡ (eqb (k % e.period) 0 && divided (drop (i + 1) ps) k)
  divided_here k = at_read (λ xs. divided xs k) ps i None (Some e) lt is

  -- what all periods divide is a multiple of this one too
  pub this_divides : ((k : ℕ) → divided ps k ≡ true → k % h ≡ 0) → ((k : ℕ) → k % h ≡ 0 → divided (drop i ps) k ≡ divided ps k) → (k : ℕ) → divided ps k ≡ true → k % e.period ≡ 0
  this_divides A B k d =
      let z : (eqb (k % e.period) 0 && divided (drop (i + 1) ps) k) ≡ true = sym (divided_here k) ∙ (B k (A k d) ∙ d) in
      eqb-true (k % e.period) 0 (and_parts _ _ z).0

  -- the rest decides where this one divides
  pub rest_decides : ((k : ℕ) → k % h ≡ 0 → divided (drop i ps) k ≡ divided ps k) → (k : ℕ) → k % h ≡ 0 → k % e.period ≡ 0 → divided (drop (i + 1) ps) k ≡ divided ps k
  rest_decides B k x y =
      let t : eqb (k % e.period) 0 ≡ true = eq-eqb (k % e.period) 0 y in
      let z : divided (drop i ps) k ≡ divided (drop (i + 1) ps) k = divided_here k ∙ ap (λ b. b && divided (drop (i + 1) ps) k) t in
      sym z ∙ B k x

pub hyper_none : (ps : List (Option Entry)) → ((k : ℕ) → 1 ≤ k → k ≤ 4096 → divided ps k ≡ true → ⊥) → hyperperiod ps ≡ 4097
unfolding hyperperiod
hyper_none ps none = first_none ps 4096 1 (λ k l u d. none k l (omega arith) d) (first_ge ps 4096 1)

pub hyper_is : (ps : List (Option Entry)) (h : ℕ) → 1 ≤ h → h ≤ 4096 → divided ps h ≡ true → ((k : ℕ) → divided ps k ≡ true → k % h ≡ 0) → hyperperiod ps ≡ h
unfolding hyperperiod
hyper_is ps h l u d A =
    first_is ps 4096 1 h l (omega arith) d
    (λ k p q e. let m : k % h ≡ k = mod-eq_of_lt q in let z = A k e in omega arith)
    (first_ge ps 4096 1)

-- what the loop keeps, at place i with the multiple h
abbrev pub Holds : List (Option Entry) → ℕ → ℕ → Type 0
Holds ps i h = (1 ≤ h) × (h ≤ 4096) × ((k : ℕ) → divided ps k ≡ true → k % h ≡ 0) × ((k : ℕ) → k % h ≡ 0 → divided (drop i ps) k ≡ divided ps k)

pub multiple : (k m h : ℕ) → k % m ≡ 0 → m % h ≡ 0 → k % h ≡ 0
multiple k m h x y = mod-eq-zero_of_dvd h (dvd_trans h (dvd_of_mod-eq-zero h y) (dvd_of_mod-eq-zero m x))
