-- After the job's release: the search for the response finds what the sums say. Assumes nothing.
use Rattle.std.proofs.Common.{◌≡◌, ℕ, zero, suc, ◌+◌, ◌-◌, ◌<◌, ◌≤◌, min, max, true, false, cond, eqb, leb, List, [], ◌∷◌, sym, refl, ap, ◌∙◌, subst, inl, inr, add-zero, arith}
use Rattle.std.specs.List.{AllByRecursion as All}
use Rattle.std.proofs.ByRecursion.{All-weaker}
use Rattle.std.proofs.lemmas.Bool.{cases_lt, le-leb, lt-leb, ne_eqb, cond-true, cond-false}
use Rattle.std.proofs.lemmas.Bool.Decides.{nat_tests}
use Rattle.scenarios.specs.Processor.{Item, State}
use Rattle.scenarios.specs.Questions.{counts, unserved, least_served}
use Rattle.scenarios.proofs.Split.{Split, ticked, joined, widened, seen, Ordered, ordered_all, ordered_from}

-- x up to the deadline d, and 256 past it
abbrev pub in_time : ℕ → ℕ → ℕ
in_time d x = cond (leb x d) x 256

-- the work would be over x ticks after a, if none came: a job at or after that end changes nothing, and one before it adds its time
abbrev pub extend : ℕ → ℕ → List Item → ℕ
extend a x [] = x
extend a x (j ∷ js) = extend a (cond (leb x (j.release - a)) x (min (x + j.left) 256)) js

-- `extend` without the limit of 256
abbrev grown : ℕ → ℕ → List Item → ℕ
grown a x [] = x
grown a x (j ∷ js) = grown a (cond (leb x (j.release - a)) x (x + j.left)) js

-- the limit changes no outcome, since each job is released before the deadline, which is below 256
grown_limited : (a d x : ℕ) (js : List Item) → d ≤ 254 → All (λ j. j.release < a + d) js → in_time d (extend a (min x 256) js) ≡ in_time d (grown a x js)
grown_limited a d x [] small r = grind (arith, nat_tests)
grown_limited a d x (j ∷ js) small r = elim (cases_lt (j.release - a) x) [
  | inl lt ↦
      let p : leb (min x 256) (j.release - a) ≡ false = lt-leb (min x 256) (j.release - a) (omega (arith, r.0)) in
      let q : leb x (j.release - a) ≡ false = lt-leb x (j.release - a) lt in
      let e : min (min x 256 + j.left) 256 ≡ min (x + j.left) 256 = omega arith in
      rw (p, q, e) (grown_limited a d (x + j.left) js small r.1)
  | inr le ↦
      let p : leb (min x 256) (j.release - a) ≡ true = le-leb (min x 256) (j.release - a) (omega (arith, r.0)) in
      let q : leb x (j.release - a) ≡ true = le-leb x (j.release - a) le in
      rw (p, q) (grown_limited a d x js small r.1)
]

grown_more : (a x : ℕ) (js : List Item) → x ≤ grown a x js
grown_more a x [] = omega arith
grown_more a x (j ∷ js) = elim (leb x (j.release - a)) as (λ b. x ≤ grown a (cond b x (x + j.left)) js) [
  | true ↦ grown_more a x js
  | false ↦ omega (arith, grown_more a (x + j.left) js)
]

grown_stays : (a x : ℕ) (js : List Item) → All (λ j. a + x ≤ j.release) js → grown a x js ≡ x
grown_stays a x [] h = refl
grown_stays a x (j ∷ js) h =
    let p : leb x (j.release - a) ≡ true = le-leb x (j.release - a) (omega (arith, h.0)) in
    rw p (grown_stays a x js h.1)

in_time_late : (d x : ℕ) → d < x → in_time d x ≡ 256
in_time_late d x h = cond-false (leb x d) x 256 (lt-leb x d h)

in_time_kept : (d x : ℕ) → x ≤ d → in_time d x ≡ x
in_time_kept d x h = cond-true (leb x d) x 256 (le-leb x d h)

-- After the job's release. The search from v on, with k more to try, where w is unserved at tick a + v of what counts there.

module _ (s : State) (a d : ℕ) where
  Main : ℕ → Type 0
  Main k = (v i w : ℕ) (back : List Item) → v + k ≡ d → Ordered (a + max 1 v) back → All (λ x. x.release < a + d) back
      → Split s (a + v) (a + (v - 1)) i back w → least_served s a k v ≡ in_time d (grown a (v + w) back)

  abbrev After : ℕ → ℕ → ℕ → List Item → Type 0
  After k v w back = least_served s a k (suc v) ≡ in_time d (grown a (v + w) back)

  -- tick a + v, where no job of the back is released
  next : (k v i w : ℕ) (back : List Item) → Main k → v + suc k ≡ d → Ordered (a + max 1 (suc v)) back → All (λ x. x.release < a + d) back
      → 0 < w → Split s (a + v) (a + v) i back w → After k v w back
  unfolding Main
  next k v i w back main e o r pos h =
      let later : All (λ x. a + v < x.release) back = All-weaker (λ x. a + max 1 (suc v) ≤ x.release) (λ x. a + v < x.release) (λ x g. omega arith) back (ordered_all (a + max 1 (suc v)) back o) in
      let same : a + v ≤ a + v = omega arith in
      let p : suc (a + v) ≡ a + suc v = omega arith in
      let q : a + v ≡ a + (suc v - 1) = omega arith in
      let t : suc v + (w - 1) ≡ v + w = omega arith in
      let moved : Split s (a + suc v) (a + (suc v - 1)) i back (w - 1) = subst (λ x. Split s (a + suc v) x i back (w - 1)) q (subst (λ x. Split s x (a + v) i back (w - 1)) p (ticked same later h)) in
      subst (λ x. least_served s a k (suc v) ≡ in_time d (grown a x back)) t (main (suc v) i (w - 1) back (omega arith) o r moved)

  -- the jobs of the back that are released at a + v come first
  after : (k v i w : ℕ) (back : List Item) → Main k → v + suc k ≡ d → Ordered (a + v) back → All (λ x. x.release < a + d) back
      → 0 < w → Split s (a + v) (a + v) i back w → After k v w back
  after k v i w [] main e o r pos h = next k v i w [] main e tt tt pos h
  after k v i w (y ∷ ys) main e o r pos h = elim (cases_lt (a + v) y.release) [
    | inl lt ↦ next k v i w (y ∷ ys) main e (omega arith, o.1) r pos h
    | inr le ↦
        let here : y.release ≡ a + v = omega (arith, o.0) in
        let p : leb (v + w) (y.release - a) ≡ false = lt-leb (v + w) (y.release - a) (omega arith) in
        let t : v + (w + y.left) ≡ (v + w) + y.left = omega arith in
        let same : a + v ≤ a + v = omega arith in
        let more : 0 < w + y.left = omega arith in
        let ord : Ordered (a + v) ys = subst (λ x. Ordered x ys) here o.1 in
        rw (p, ← t) (after k v (suc i) (w + y.left) ys main e ord r.1 more (joined y same le h))
  ]

  -- what the search sees at v
  seen_at : (v i w : ℕ) (back : List Item) → Ordered (a + max 1 v) back → Split s (a + v) (a + (v - 1)) i back w → unserved s a v ≡ w
  seen_at v i w back o h = seen (counts a v) (λ x g. grind (arith, nat_tests))
      (All-weaker (λ x. a + max 1 v ≤ x.release) (λ x. counts a v x ≡ false) (λ x g. grind (arith, nat_tests)) back (ordered_all (a + max 1 v) back o)) h

  all_served : (v : ℕ) (back : List Item) → v ≤ d → Ordered (a + max 1 v) back → v ≡ in_time d (grown a (v + 0) back)
  all_served v back le o =
      let stays : grown a v back ≡ v = grown_stays a v back (All-weaker (λ x. a + max 1 v ≤ x.release) (λ x. a + v ≤ x.release) (λ x g. omega arith) back (ordered_all (a + max 1 v) back o)) in
      rw (add-zero, stays) (sym (in_time_kept d v le))

  main : (k : ℕ) → Main k
  unfolding Main
  main zero v i w back e o r h = rw (seen_at v i w back o h) (go w)
    where
      go : (w : ℕ) → cond (eqb w 0) v 256 ≡ in_time d (grown a (v + w) back)
      go zero = all_served v back (omega arith) o
      go (suc w) = rw (ne_eqb (suc w) 0 (omega arith)) (sym (in_time_late d (grown a (v + suc w) back) (omega (arith, grown_more a (v + suc w) back))))
  main (suc k) v i w back e o r h = rw (seen_at v i w back o h) (go (main k) w h)
    where
      go : Main k → (w : ℕ) → Split s (a + v) (a + (v - 1)) i back w → cond (eqb w 0) v (least_served s a k (suc v)) ≡ in_time d (grown a (v + w) back)
      go m zero h = all_served v back (omega arith) o
      go m (suc w) h =
          let pos : 0 < suc w = omega arith in
          rw (ne_eqb (suc w) 0 (omega arith))
          (after k v i (suc w) back m e (ordered_from (a + v) (a + max 1 v) (omega arith) back o) r pos (widened (a + v) (omega arith) h))

  -- at the job's release, with the limit of 256
  pub responds : (i w : ℕ) (later : List Item) → d ≤ 254 → Ordered (a + 1) later → All (λ x. x.release < a + d) later → w < 256
      → Split s a a i later w → least_served s a d 0 ≡ in_time d (extend a w later)
  unfolding Main
  responds i w later small o r lt h =
      let e : a ≡ a + 0 = omega arith in
      let t : 0 + w ≡ w = omega arith in
      let m : min w 256 ≡ w = omega arith in
      let z : 0 + d ≡ d = omega arith in
      let found : least_served s a d 0 ≡ in_time d (grown a (0 + w) later) = main d 0 i w later z o r (subst (λ x. Split s x x i later w) e h) in
      found ∙ ap (λ x. in_time d (grown a x later)) t ∙ sym (grown_limited a d w later small r) ∙ ap (λ x. in_time d (extend a x later)) m
