-- The exact sheet holds the weights of the scenarios, and worse tables never make the late weight smaller. Assumes nothing.
use Rattle.std.proofs.Common.{◌≡◌, ℕ, ◌+◌, ◌≤◌, Bool, eqb, leb, List, [], ◌∷◌, ◌++◌, map, sym, refl, ap, ◌∙◌, subst₂, arith}
use mathlib.Core.Path.{fun_ext}
use Rattle.std.proofs.lemmas.Bool.Decides.{nat_tests}
use Rattle.theory.specs.Semiring.{Ops, Laws}
use Rattle.std.specs.List.{filter}
use Rattle.theory.specs.Sums.{over}
use Rattle.theory.specs.Walk.{draws, weight, sheet, rest}
use Rattle.theory.specs.Walk.{outcome as walk_outcome, scenarios as walk_scenarios}
use Rattle.theory.proofs.Pushed.{pushforward}
use Rattle.theory.proofs.Tails.{late}
use Rattle.scenarios.specs.Questions.{Counted, Question, counted, upto, drawn_from, scenarios, weight_of}
use Rattle.scenarios.specs.Walks.{legs_upto, legs_later, legs}
use Rattle.scenarios.specs.Theorems.{Sound, ExactAnswers, ExactNeverBetter}
use Rattle.scenarios.proofs.Responses.{in_time}
use Rattle.scenarios.proofs.Outcomes.{kept_is_sums}
use Rattle.scenarios.proofs.SheetWalk.{legs_stay, opening_below, sheet_is_walk, tail_is_walk}
use Rattle.scenarios.proofs.Eased.{counted_parts, weights_equal, walk_never_better}

-- the tables of the legs are those of the counted jobs
tables_later : (a : ℕ) (ks : List Counted) → map (λ l. l.table) (legs_later a ks) ≡ map (λ k. drawn_from k.pairs) ks
tables_later a [] = refl
tables_later a (k ∷ ks) = ap (λ ts. drawn_from k.pairs ∷ ts) (tables_later a ks)

tables_upto : (last a : ℕ) (ks ls : List Counted) → map (λ l. l.table) (legs_upto last ks ++ legs_later a ls) ≡ map (λ k. drawn_from k.pairs) (ks ++ ls)
tables_upto last a [] ls = tables_later a ls
tables_upto last a (k ∷ ks) ls = ap (λ ts. drawn_from k.pairs ∷ ts) (tables_upto k.release a ks ls)

pub leg_tables : (q : Question) → map (λ l. l.table) (legs q) ≡ map (λ k. drawn_from k.pairs) (counted q)
unfolding legs
leg_tables q =
    tables_upto 0 q.job.release (upto q) q.later
    ∙ sym (ap (λ ks. map (λ k. drawn_from k.pairs) ks) (counted_parts q.before q.job q.later))

-- so the walk has the question's scenarios
pub same_scenarios : (q : Question) → walk_scenarios (drawn_from q.opening) (legs q) ≡ scenarios q
same_scenarios q = ap (λ ts. draws (drawn_from q.opening ∷ ts)) (leg_tables q)

-- up to the deadline the outcome is the walk's; 256 is what comes after it
in_time_here : (D v x : ℕ) → D ≤ 254 → v ≤ D → eqb (in_time D x) v ≡ eqb x v
in_time_here D v x h k = grind (arith, nat_tests)

in_time_late : (D x : ℕ) → D ≤ 254 → eqb (in_time D x) 256 ≡ leb (D + 1) x
in_time_late D x h = grind (arith, nat_tests)

module _ {K : Type 0} (ops : Ops K) where
  -- the weight of an outcome, by a test of where the walk ends
  pub weight_by_walk : (q : Question) → Sound q → (v : ℕ) (p : ℕ → Bool) → ((x : ℕ) → eqb (in_time q.deadline x) v ≡ p x)
      → over ops (filter (λ d. p (walk_outcome (legs q) d)) (walk_scenarios (drawn_from q.opening) (legs q))) (weight ops) ≡ weight_of ops q v
  unfolding weight_of
  weight_by_walk q sound v p e =
      ap (λ ds. over ops (filter (λ d. p (walk_outcome (legs q) d)) ds) (weight ops)) (same_scenarios q)
      ∙ sym (ap (λ ds. over ops ds (weight ops)) (kept_is_sums q sound (λ x. eqb x v))
      ∙ ap (λ (t : ℕ → Bool). over ops (filter (λ d. t (walk_outcome (legs q) d)) (scenarios q)) (weight ops)) (fun_ext e))

module _ {K : Type 0} {ops : Ops K} {least : K → K → Type 0} (laws : Laws ops least) where
  pub walk_late : (q : Question) → Sound q → rest ops 257 (sheet ops 257 (drawn_from q.opening) (legs q)) (q.deadline + 1) ≡ weight_of ops q 256
  walk_late q sound =
      late laws (drawn_from q.opening) (legs q) (opening_below q sound) (legs_stay q) q.deadline
      ∙ weight_by_walk ops q sound 256 (λ x. leb (q.deadline + 1) x) (λ x. in_time_late q.deadline x sound.deadline_small)

  pub exact_answers : ExactAnswers ops
  exact_answers q sound = record {
    in_time = λ v h.
        sheet_is_walk laws q sound v (omega (arith, sound.deadline_small))
        ∙ pushforward laws (drawn_from q.opening) (legs q) (opening_below q sound) (legs_stay q) v (omega (arith, sound.deadline_small))
        ∙ weight_by_walk ops q sound v (λ x. eqb x v) (λ x. in_time_here q.deadline v x sound.deadline_small h);
    late = tail_is_walk laws q sound (q.deadline + 1) ∙ walk_late q sound;
  }

  pub exact_never_better : ExactNeverBetter ops least
  exact_never_better q r f g worse = record {
    later = subst₂ least (walk_late q f) (walk_late r g) (walk_never_better laws q r f g worse);
    equal_weight = weights_equal ops least q r worse;
  }
