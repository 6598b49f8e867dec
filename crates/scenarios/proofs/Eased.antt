-- A question over worse tables has a worse walk, and its scenarios weigh the same in all. Assumes nothing.
use Rattle.std.proofs.Common.{◌≡◌, ℕ, ◌+◌, ◌-◌, List, [], ◌∷◌, ◌++◌, map, sym, refl, ap, ◌∙◌, ap₂, subst₂}
use Rattle.theory.specs.Semiring.{Ops, Laws}
use Rattle.theory.specs.Walk.{Leg, sheet, rest, after, from}
use Rattle.theory.specs.Walk.{Harder as HarderLegs}
use Rattle.theory.proofs.Moves.{moves_fair}
use Rattle.theory.proofs.Tails.{never_later}
use Rattle.scenarios.specs.Questions.{Counted, Question, counted, upto, drawn_from, product_of, weight_of_all}
use Rattle.scenarios.specs.Walks.{legs_upto, legs_later, legs}
use Rattle.scenarios.specs.Theorems.{AllFit, Sound, Harder, WorseQuestion}
use Rattle.scenarios.proofs.BridgePassing.{below_small}
use Rattle.scenarios.proofs.SheetWalk.{legs_stay, opening_below}

-- the jobs up to the job, and then the later ones, are all the counted jobs
pub counted_parts : (xs : List Counted) (k : Counted) (ys : List Counted) → xs ++ (k ∷ ys) ≡ (xs ++ (k ∷ [])) ++ ys
counted_parts [] k ys = refl
counted_parts (x ∷ xs) k ys = ap (λ zs. x ∷ zs) (counted_parts xs k ys)

fit_first : (xs ys : List Counted) → AllFit (xs ++ ys) → AllFit xs
fit_first [] ys h = tt
fit_first (x ∷ xs) ys h = (h.0, fit_first xs ys h.1)

fit_second : (xs ys : List Counted) → AllFit (xs ++ ys) → AllFit ys
fit_second [] ys h = h
fit_second (x ∷ xs) ys h = fit_second xs ys h.1

parts_fit : (q : Question) → Sound q → AllFit (upto q ++ q.later)
parts_fit q sound = rw (← counted_parts q.before q.job q.later) sound.jobs_fit

pub upto_fit : (q : Question) → Sound q → AllFit (upto q)
upto_fit q sound = fit_first (upto q) q.later (parts_fit q sound)

pub later_fit : (q : Question) → Sound q → AllFit q.later
later_fit q sound = fit_second (upto q) q.later (parts_fit q sound)

module _ {K : Type 0} (ops : Ops K) (least : K → K → Type 0) where
  harder_append : (ls ls' ks ks' : List Leg) → HarderLegs ops least ls ks → HarderLegs ops least ls' ks' → HarderLegs ops least (ls ++ ls') (ks ++ ks')
  harder_append [] ls' [] ks' h h' = h'
  harder_append [] ls' (k ∷ ks) ks' h h' = absurd h
  harder_append (l ∷ ls) ls' [] ks' h h' = absurd h
  harder_append (l ∷ ls) ls' (k ∷ ks) ks' h h' = (h.0, h.1, h.2, h.3, h.4, harder_append ls ls' ks ks' h.5 h')

  harder_upto : (ls ks : List Counted) (a b : ℕ) → a ≡ b → AllFit ls → AllFit ks → Harder ops least ls ks → HarderLegs ops least (legs_upto a ls) (legs_upto b ks)
  harder_upto [] [] a b e f g h = tt
  harder_upto [] (k ∷ ks) a b e f g h = absurd h
  harder_upto (l ∷ ls) [] a b e f g h = absurd h
  harder_upto (l ∷ ls) (k ∷ ks) a b e f g h = (
    ap₂ (λ (m n : ℕ). after (m - n)) h.0 e,
    (moves_fair.0 (l.release - a)).rises,
    below_small l.pairs f.0.small,
    below_small k.pairs g.0.small,
    h.1,
    harder_upto ls ks l.release k.release h.0 f.1 g.1 h.3,
  )

  harder_later : (ls ks : List Counted) (a b : ℕ) → a ≡ b → AllFit ls → AllFit ks → Harder ops least ls ks → HarderLegs ops least (legs_later a ls) (legs_later b ks)
  harder_later [] [] a b e f g h = tt
  harder_later [] (k ∷ ks) a b e f g h = absurd h
  harder_later (l ∷ ls) [] a b e f g h = absurd h
  harder_later (l ∷ ls) (k ∷ ks) a b e f g h = (
    ap₂ (λ (m n : ℕ). from (m - n)) h.0 e,
    (moves_fair.1 (l.release - a)).rises,
    below_small l.pairs f.0.small,
    below_small k.pairs g.0.small,
    h.1,
    harder_later ls ks a b e f.1 g.1 h.3,
  )

  pub legs_harder : (q r : Question) → Sound q → Sound r → WorseQuestion ops least q r → HarderLegs ops least (legs q) (legs r)
  unfolding legs
  legs_harder q r f g worse =
      harder_append (legs_upto 0 (upto q)) (legs_later q.job.release q.later) (legs_upto 0 (upto r)) (legs_later r.job.release r.later)
      (harder_upto (upto q) (upto r) 0 0 refl (upto_fit q f) (upto_fit r g) worse.before_worse)
      (harder_later q.later r.later q.job.release r.job.release worse.same_release (later_fit q f) (later_fit r g) worse.later_worse)

  harder_joined : (ls ls' ks ks' : List Counted) → Harder ops least ls ks → Harder ops least ls' ks' → Harder ops least (ls ++ ls') (ks ++ ks')
  harder_joined [] ls' [] ks' h h' = h'
  harder_joined [] ls' (k ∷ ks) ks' h h' = absurd h
  harder_joined (l ∷ ls) ls' [] ks' h h' = absurd h
  harder_joined (l ∷ ls) ls' (k ∷ ks) ks' h h' = (h.0, h.1, h.2, harder_joined ls ls' ks ks' h.3 h')

  -- the product of the totals of some jobs
  abbrev totals_of : List Counted → K
  totals_of ks = product_of ops (map (λ k. drawn_from k.pairs) ks)

  totals_equal : (ls ks : List Counted) → Harder ops least ls ks → totals_of ls ≡ totals_of ks
  totals_equal [] [] h = refl
  totals_equal [] (k ∷ ks) h = absurd h
  totals_equal (l ∷ ls) [] h = absurd h
  totals_equal (l ∷ ls) (k ∷ ks) h = ap₂ ops.product h.2 (totals_equal ls ks h.3)

  counted_totals : (q r : Question) → WorseQuestion ops least q r → totals_of (counted q) ≡ totals_of (counted r)
  counted_totals q r worse =
      ap totals_of (counted_parts q.before q.job q.later)
      ∙ totals_equal (upto q ++ q.later) (upto r ++ r.later) (harder_joined (upto q) q.later (upto r) r.later worse.before_worse worse.later_worse)
      ∙ sym (ap totals_of (counted_parts r.before r.job r.later))

  -- in all the scenarios weigh the same
  pub weights_equal : (q r : Question) → WorseQuestion ops least q r → weight_of_all ops q ≡ weight_of_all ops r
  weights_equal q r worse = ap₂ ops.product worse.opening_total (counted_totals q r worse)

module _ {K : Type 0} {ops : Ops K} {least : K → K → Type 0} (laws : Laws ops least) where
  -- the tail after the deadline is no smaller
  pub walk_never_better : (q r : Question) → Sound q → Sound r → WorseQuestion ops least q r
      → least (rest ops 257 (sheet ops 257 (drawn_from q.opening) (legs q)) (q.deadline + 1))
      (rest ops 257 (sheet ops 257 (drawn_from r.opening) (legs r)) (r.deadline + 1))
  walk_never_better q r f g worse =
      let later = never_later laws (drawn_from q.opening) (drawn_from r.opening) (legs q) (legs r)
      (opening_below q f) (opening_below r g) worse.opening_worse (legs_stay q) (legs_harder ops least q r f g worse) q.deadline in
      subst₂ least refl (ap (λ (d : ℕ). rest ops 257 (sheet ops 257 (drawn_from r.opening) (legs r)) (d + 1)) worse.same_deadline) later
