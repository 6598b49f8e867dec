-- The outcome of a scenario on the processor is the sum along the legs of the walk, up to the deadline. Assumes nothing.
use Rattle.std.proofs.Common.{◌≡◌, ℕ, suc, ◌+◌, ◌-◌, ◌<◌, ◌≤◌, min, Bool, true, false, cond, ◌||◌, leb, List, [], ◌∷◌, ◌++◌, sym, refl, ap, ◌∙◌, inl, inr, add-zero, arith}
use Rattle.std.specs.List.{AllByRecursion as All}
use Rattle.std.proofs.ByRecursion.{All-weaker}
use Rattle.std.proofs.lemmas.Bool.{cases_lt, le-leb, lt-leb}
use Rattle.std.specs.List.{filter}
use Rattle.theory.specs.Walk.{Table, Leg, after, onward, outcome as walk_outcome}
use Rattle.scenarios.specs.Processor.{State, state_at}
use Rattle.scenarios.specs.Questions.{Counted, Question, scenarios, items, start, unserved_first, overlong_from, least_served, outcome}
use Rattle.scenarios.specs.Walks.{legs_upto, legs_later, legs}
use Rattle.scenarios.specs.Theorems.{InOrder, AllBefore, Sound}
use Rattle.scenarios.proofs.Split.{Split, stepped, seen_first, Ordered, ordered_all}
use Rattle.scenarios.proofs.Responses.{in_time, extend, responds}
use Rattle.scenarios.proofs.Scenarios.{Long, Scenario, all_scenarios, kept_same}

-- the drawn jobs are in order, and in reach, as the counted jobs are
pub items_ordered : (low : ℕ) (ks : List Counted) (d : Table) → InOrder low ks → Ordered low (items ks d)
items_ordered low [] d h = tt
items_ordered low (k ∷ ks) [] h = tt
items_ordered low (k ∷ ks) (x ∷ d) h = (h.0, items_ordered k.release ks d h.1)

items_before : (end : ℕ) (ks : List Counted) (d : Table) → AllBefore end ks → All (λ x. x.release < end) (items ks d)
items_before end [] d h = tt
items_before end (k ∷ ks) [] h = tt
items_before end (k ∷ ks) (x ∷ d) h = (h.0, items_before end ks d h.1)

in_order_from : (low high : ℕ) → low ≤ high → (ks : List Counted) → InOrder high ks → InOrder low ks
in_order_from low high le [] h = tt
in_order_from low high le (k ∷ ks) h = (omega (arith, h.0), h.1)

-- the two parts in order are in order as one
in_order_joined : (low : ℕ) (ks : List Counted) (j : Counted) (later : List Counted)
    → InOrder low (ks ++ (j ∷ [])) → InOrder (j.release + 1) later → InOrder low (ks ++ (j ∷ later))
in_order_joined low [] j later h o = (h.0, in_order_from j.release (j.release + 1) (omega arith) later o)
in_order_joined low (k ∷ ks) j later h o = (h.0, in_order_joined k.release ks j later h.1 o)

-- 256 stays
later_full : (a : ℕ) (ks : List Counted) (d : Table) → onward (legs_later a ks) d 256 ≡ 256
later_full a [] d = refl
later_full a (k ∷ ks) [] = refl
later_full a (k ∷ ks) (x ∷ d) =
    let m : min (256 + x.0) 256 ≡ 256 = omega arith in
    let e : cond (leb 256 (k.release - a)) 256 (min (256 + x.0) 256) ≡ 256 = rw m (either (leb 256 (k.release - a))) in
    ap (onward (legs_later a ks) d) e ∙ later_full a ks d
  where
    either : (b : Bool) → cond {A = ℕ} b 256 256 ≡ 256
    either true = refl
    either false = refl

full : (p a : ℕ) (ks later : List Counted) (d : Table) → onward (legs_upto p ks ++ legs_later a later) d 256 ≡ 256
full p a [] later d = later_full a later d
full p a (k ∷ ks) later [] = refl
full p a (k ∷ ks) later (x ∷ d) = full k.release a ks later d

-- the later jobs one by one
extend_onward : (a : ℕ) (x : ℕ) (ks : List Counted) (d : Table) → extend a x (items ks d) ≡ onward (legs_later a ks) d x
extend_onward a x [] d = refl
extend_onward a x (k ∷ ks) [] = refl
extend_onward a x (k ∷ ks) (y ∷ d) = extend_onward a (cond (leb x (k.release - a)) x (min (x + y.0) 256)) ks d

-- a step below 256, and one that gets there
after_small : (g w t : ℕ) → w < 256 → (w - g) + t < 256 → after g w t ≡ (w - g) + t
after_small g w t lt small = let m : min ((w - g) + t) 256 ≡ (w - g) + t = omega arith in rw (lt-leb 256 w lt, m)

after_large : (g w t : ℕ) → w < 256 → 256 ≤ (w - g) + t → after g w t ≡ 256
after_large g w t lt large = let m : min ((w - g) + t) 256 ≡ 256 = omega arith in rw (lt-leb 256 w lt, m)

in_time_full : (d : ℕ) → d ≤ 254 → in_time d 256 ≡ 256
in_time_full d h = rw (lt-leb 256 d (omega arith))

module _ (q : Question) (sound : Sound q) (s : State) where
  abbrev response : ℕ
  response = least_served s q.job.release q.deadline 0

  abbrev walk : ℕ → List Counted → List Leg
  walk p ks = legs_upto p ks ++ legs_later q.job.release q.later

  -- w is unserved right after the release at p: the ticks from there on, and the walk
  abbrev Agrees : ℕ → ℕ → List Counted → Table → ℕ → Type 0
  Agrees p k ks d w = cond (overlong_from s k ks) 256 response ≡ in_time q.deadline (onward (walk p ks) d w)

  -- one job more
  once : (p k : ℕ) (j : Counted) (ks : List Counted) (x : ℕ × ℕ) (d : Table) (w y : ℕ) → w < 256 → y ≡ (w - (j.release - p)) + x.0
      → unserved_first s (suc k) j.release ≡ y → (y < 256 → Agrees j.release (suc k) ks d y) → Agrees p k (j ∷ ks) (x ∷ d) w
  once p k j ks x d w y lt is sees more = elim (cases_lt y 256) [
    | inl small ↦
        ap (λ b. cond (b || overlong_from s (suc k) ks) 256 response) (ap (leb 256) sees ∙ lt-leb 256 y small)
        ∙ more small
        ∙ ap (λ v. in_time q.deadline (onward (walk j.release ks) d v)) (is ∙ sym (after_small (j.release - p) w x.0 lt (omega arith)))
    | inr large ↦
        ap (λ b. cond (b || overlong_from s (suc k) ks) 256 response) (ap (leb 256) sees ∙ le-leb 256 y large)
        ∙ sym (in_time_full q.deadline sound.deadline_small)
        ∙ ap (in_time q.deadline) (sym (full j.release q.job.release ks q.later d))
        ∙ ap (λ v. in_time q.deadline (onward (walk j.release ks) d v)) (sym (after_large (j.release - p) w x.0 lt (omega arith)))
  ]

  -- the jobs up to the asked one, and then the later ones
  climbs : (ks : List Counted) (p k w : ℕ) (d : Table) → w < 256 → InOrder p (ks ++ (q.job ∷ q.later)) → Long (ks ++ (q.job ∷ q.later)) d
      → Split s p p k (items (ks ++ (q.job ∷ q.later)) d) w → Agrees p k (ks ++ (q.job ∷ [])) d w
  climbs [] p k w [] lt order long h = absurd long
  climbs [] p k w (x ∷ d) lt order long h =
      let a : ℕ = q.job.release in
      let jobs = items_ordered (a + 1) q.later d sound.then_in_order in
      let one = stepped p w _ order.0 (ordered_all a (items q.later d) (items_ordered a q.later d order.1)) h in
      once p k q.job [] x d w _ lt refl (seen_first one)
      (λ small. responds s a q.deadline (suc k) _ (items q.later d) sound.deadline_small jobs
      (items_before (a + q.deadline) q.later d sound.in_reach) small one
      ∙ ap (in_time q.deadline) (extend_onward a _ q.later d))
  climbs (j ∷ ks) p k w [] lt order long h = absurd long
  climbs (j ∷ ks) p k w (x ∷ d) lt order long h =
      let rest : List Counted = ks ++ (q.job ∷ q.later) in
      let one = stepped p w _ order.0 (ordered_all j.release (items rest d) (items_ordered j.release rest d order.1)) h in
      once p k j (ks ++ (q.job ∷ [])) x d w _ lt refl (seen_first one) (λ small. climbs ks j.release (suc k) _ d small order.1 long one)

pub outcome_is_sums : (q : Question) → Sound q → (d : Table) → Scenario q d → outcome q d ≡ in_time q.deadline (walk_outcome (legs q) d)
unfolding outcome legs state_at
outcome_is_sums q sound [] drawn = absurd drawn
outcome_is_sums q sound (x ∷ d) drawn =
    climbs q sound (start q (x ∷ d)) q.before 0 0 x.0 d drawn.0
    (in_order_joined 0 q.before q.job q.later sound.first_in_order sound.then_in_order) drawn.1
    (record { opening = x.0; front = []; is = refl; released = tt; count = refl; work = add-zero x.0 })

-- so a test of the outcome keeps the scenarios that the same test of the sums keeps
pub kept_is_sums : (q : Question) → Sound q → (p : ℕ → Bool)
    → filter (λ d. p (outcome q d)) (scenarios q) ≡ filter (λ d. p (in_time q.deadline (walk_outcome (legs q) d))) (scenarios q)
kept_is_sums q sound p =
    kept_same (λ d. p (outcome q d)) (λ d. p (in_time q.deadline (walk_outcome (legs q) d))) (scenarios q)
    (All-weaker (Scenario q) (λ d. p (outcome q d) ≡ p (in_time q.deadline (walk_outcome (legs q) d))) (λ d h. ap p (outcome_is_sums q sound d h))
    (scenarios q) (all_scenarios q sound))
