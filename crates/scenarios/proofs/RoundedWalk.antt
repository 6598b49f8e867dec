-- The tails of the rounded sheet are those of the rounded walk along the legs. Assumes nothing.
use Rattle.std.proofs.Common.{◌≡◌, ℕ, ◌+◌, ◌-◌, ◌^◌, ◌≤◌, List, [], ◌∷◌, ◌++◌, sym, refl, ap, ◌∙◌, subst, arith}
use Rattle.theory.specs.Walk.{Leg, after, from}
use Rattle.theory.specs.Rounded.{rounded_start, rounded_next, rounded}
use Rattle.theory.proofs.Moves.{moves_fair}
use Rattle.analysis.specs.Cells.{passed, added}
use Rattle.kinds.specs.Counts.{Count, count_ops, count_laws, counted}
use Rattle.scenarios.specs.Questions.{Counted, Question, upto, drawn_from}
use Rattle.scenarios.specs.Walks.{lone, settled, walked_upto, walked_later, walked, rounded_sheet, legs_upto, legs_later, legs}
use Rattle.scenarios.specs.Theorems.{AllFit, AllBefore, Sound}
use Rattle.scenarios.proofs.BridgeAdding.{added_from_is_next}
use Rattle.scenarios.proofs.BridgePassing.{passed_added_is_next}
use Rattle.scenarios.proofs.Eased.{upto_fit, later_fit}
use Rattle.scenarios.proofs.RoundedSteps.{tails, Light, settled_is_next, next_light, opening_is_start, start_light}

-- the sheet has the tails R, and its whole weight is at most 1,048,576
record Has (f : ℕ → Count) (R : ℕ → ℕ) : Type 0 where
  is : tails f ≡ R
  light : Light (tails f)

light_as : (f : ℕ → Count) (R : ℕ → ℕ) → tails f ≡ R → Light R → Light (tails f)
light_as f R e h = subst Light (sym e) h

-- the jobs up to the asked one
upto_rounds : (last : ℕ) (f : ℕ → Count) (R : ℕ → ℕ) (ks : List Counted) → AllFit ks → Has f R
    → Has (walked_upto count_ops settled last f ks) (rounded (legs_upto last ks) R)
upto_rounds last f R [] fit has = has
upto_rounds last f R (k ∷ ks) fit has =
    let g : ℕ → Count = added count_ops 0 (passed count_ops (k.release - last) f) k.pairs in
    let l : Leg = record { move = after (k.release - last); table = drawn_from k.pairs } in
    let e : tails (settled k.pairs g) ≡ rounded_next l (tails f) =
    settled_is_next k.pairs fit.0 (after (k.release - last)) f has.light g (moves_fair.0 (k.release - last))
    (passed_added_is_next count_laws (k.release - last) f k.pairs) in
    upto_rounds k.release (settled k.pairs g) (rounded_next l R) ks fit.1
    (record {
      is = e ∙ ap (rounded_next l) has.is;
      light = light_as (settled k.pairs g) (rounded_next l (tails f)) e (next_light k.pairs fit.0 (after (k.release - last)) f has.light);
    })

-- the later jobs
later_rounds : (a D : ℕ) (f : ℕ → Count) (R : ℕ → ℕ) (ks : List Counted) → D ≤ 254 → AllBefore (a + D) ks → AllFit ks → Has f R
    → Has (walked_later count_ops settled a f ks) (rounded (legs_later a ks) R)
later_rounds a D f R [] small reach fit has = has
later_rounds a D f R (k ∷ ks) small reach fit has =
    let g : ℕ → Count = added count_ops (k.release - a + 1) f k.pairs in
    let l : Leg = record { move = from (k.release - a); table = drawn_from k.pairs } in
    let e : tails (settled k.pairs g) ≡ rounded_next l (tails f) =
    settled_is_next k.pairs fit.0 (from (k.release - a)) f has.light g (moves_fair.1 (k.release - a))
    (λ v h. added_from_is_next count_laws (k.release - a) f k.pairs v (omega (arith, reach.0)) h) in
    later_rounds a D (settled k.pairs g) (rounded_next l R) ks small reach.1 fit.1
    (record {
      is = e ∙ ap (rounded_next l) has.is;
      light = light_as (settled k.pairs g) (rounded_next l (tails f)) e (next_light k.pairs fit.0 (from (k.release - a)) f has.light);
    })

rounded_append : (ls ks : List Leg) (R : ℕ → ℕ) → rounded (ls ++ ks) R ≡ rounded ks (rounded ls R)
rounded_append [] ks R = refl
rounded_append (l ∷ ls) ks R = rounded_append ls ks (rounded_next l R)

pub rounded_is_walk : (q : Question) → Sound q → tails (rounded_sheet q) ≡ rounded (legs q) (rounded_start (2 ^ 20) (drawn_from q.opening))
unfolding walked legs
rounded_is_walk q sound =
    let f : ℕ → Count = settled q.opening (added count_ops 0 (lone count_ops (counted 1048576)) q.opening) in
    let R : ℕ → ℕ = rounded_start (2 ^ 20) (drawn_from q.opening) in
    let e : tails f ≡ R = opening_is_start q.opening sound.opening_fits in
    let a : ℕ = q.job.release in
    (later_rounds a q.deadline (walked_upto count_ops settled 0 f (upto q)) (rounded (legs_upto 0 (upto q)) R) q.later
    sound.deadline_small sound.in_reach (later_fit q sound)
    (upto_rounds 0 f R (upto q) (upto_fit q sound) (record { is = e; light = light_as f R e (start_light q.opening sound.opening_fits) }))).is
    ∙ sym (rounded_append (legs_upto 0 (upto q)) (legs_later a q.later) R)
