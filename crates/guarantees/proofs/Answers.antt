-- What holds of the answers of two books that have been kept alike.
use Rattle.std.proofs.Common.{◌≡◌, ℕ, zero, suc, ◌+◌, ◌*◌, ◌^◌, ◌≤◌, Bool, true, false, cond, ltb, List, length, get_or, Some, None, Ok, Err, Option, Result, sym, refl, ap, ◌∙◌, subst, subst₂, add-le-add, arith}
use Rattle.std.proofs.lemmas.Bool.{and_parts, true≢false, false≢true}
use Rattle.theory.specs.Semiring.{Ops, Laws}
use Rattle.theory.specs.Rounded.{nat_ops, totals, Close}
use Rattle.kinds.specs.Counts.{count_ops, count_least}
use Rattle.scenarios.specs.Questions.{Question as JobQuestion, tables, weight_of, weight_of_all}
use Rattle.scenarios.specs.Theorems.{Sound, NeverBetter}
use Rattle.scenarios.proofs.Exact.{exact_never_better}
use Rattle.scenarios.proofs.RoundedClose.{rounded_close, rounded_never_better}
use Rattle.book.specs.declared.lateness.TaskLateness.{TaskLateness}
use Rattle.board.specs.Model.{Entry, Book}
use Rattle.board.specs.Jobs.{Rule, Job, release_of, asked}
use Rattle.board.specs.Questions.{question_of}
use Rattle.book.specs.Asks.{long, within, granted, rounded_late, rounded_of, light, round_jobs, job_at, all_within, late_sum, task_of}
use Rattle.guarantees.specs.Runs.{Side, one, other, Tables, Question}
use Rattle.guarantees.specs.Runs.{response, other_response, rounded, task}
use Rattle.guarantees.specs.Law.{AllSlower, Compare, Later, LaterRound, Near, Holds}
use Rattle.guarantees.proofs.Twins.{Two, Twin, place_for, entry_for, book_for, books, at_place, within_same, all_within_same, round_jobs_same}
use Rattle.guarantees.proofs.Lawful.{LawfulBook, found_sound}
use Rattle.guarantees.proofs.Slow.{worse_question, slow_at}
use Rattle.guarantees.proofs.Next.{Good}
use Rattle.guarantees.proofs.Asked.{asks, granted_sound, no_answer}

-- a rounded answer is close to the exact one
module _ (rule : Rule) (b : Book) (ok : LawfulBook b) (place i m n : ℕ) (j : Job) (R : ℕ) (is : granted b (asked b place i) ≡ Ok j) where
  abbrev CloseTo : ℕ → Type 0
  CloseTo r = Close (2 ^ 20) (totals (tables (question_of rule b j))) (length (tables (question_of rule b j))) (weight_of nat_ops (question_of rule b j) 256) r

  close_late : CloseTo (rounded_late rule b j)
  unfolding rounded_late
  close_late = rounded_close (question_of rule b j) (granted_sound place i rule b ok j is)

  near_by : (t : Bool) → cond t (rounded_of rule b (granted b (asked b place i))) (Err 10) ≡ Ok R → CloseTo R
  near_by true was =
      let named : rounded_of rule b (granted b (asked b place i)) ≡ Ok (rounded_late rule b j) = ap (rounded_of rule b) is in
      let late : rounded_late rule b j ≡ R = cc in
      subst CloseTo late close_late
  near_by false was = absurd (no_answer 10 R was)

near : (rule : Rule) (b : Book) → LawfulBook b → (place i m n : ℕ) → Near rule b place i m n
near rule b ok place i m n j R is = near_by rule b ok place i m n j R is (long m n)

module _ {K : Type 0} {ops : Ops K} {least : K → K → Type 0} (laws : Laws ops least) (w : Twin) (ts : List Tables) (good : Good ops least w ts) where
  module _ (rule : Rule) (place : ℕ) (z : Two) (at : get_or w.places place None ≡ Some z) where
    -- the question of job i in one of the books
    abbrev asking : Side → ℕ → JobQuestion
    asking s i = question_of rule (book_for s w) (job_at place (entry_for s z) i)

    stands : (s : Side) → get_or (book_for s w).places place None ≡ Some (entry_for s z)
    stands s = at_place s w.places place ∙ ap (place_for s) at

    module _ (i : ℕ) (inside : within (book_for one w) (job_at place (entry_for one z) i) ≡ true) where
      sound_one : Sound (asking one i)
      sound_one = found_sound (book_for one w) good.one_lawful rule place i (entry_for one z) (stands one) inside

      sound_other : Sound (asking other i)
      sound_other = found_sound (book_for other w) good.other_lawful rule place i (entry_for other z) (stands other) (within_same other one w z place i ∙ inside)

      never_better : AllSlower ops least ts → NeverBetter ops least (asking other i) (asking one i)
      never_better h =
          let all = good.slow h in
          exact_never_better laws (asking other i) (asking one i) sound_other sound_one
          (worse_question ops least rule place z (release_of (entry_for one z) i) w all.0 all.1 (slow_at ops least w.places place z at all.0))

      later_late : AllSlower count_ops count_least ts
          → rounded_late rule (book_for one w) (job_at place (entry_for one z) i) ≤ rounded_late rule (book_for other w) (job_at place (entry_for other z) i)
      unfolding rounded_late
      later_late h =
          let all = good.slow_counts h in
          rounded_never_better (asking other i) (asking one i) sound_other sound_one
          (worse_question count_ops count_least rule place z (release_of (entry_for one z) i) w all.0 all.1 (slow_at count_ops count_least w.places place z at all.0))

    -- the sum over a round
    later_sum : AllSlower count_ops count_least ts → (from n : ℕ) → all_within (book_for one w) place (entry_for one z) from n ≡ true
        → late_sum rule (book_for one w) place (entry_for one z) from n ≤ late_sum rule (book_for other w) place (entry_for other z) from n
    later_sum h from zero ok = omega arith
    later_sum h from (suc n) ok =
        let parts = and_parts (all_within (book_for one w) place (entry_for one z) from n) (within (book_for one w) (job_at place (entry_for one z) (from + n))) ok in
        add-le-add (later_sum h from n parts.0) (later_late (from + n) parts.1 h)

  module _ (rule : Rule) (place : ℕ) where
    abbrev Exact : Result Job ℕ → Result Job ℕ → Type 0
    Exact r s = Compare (Later ops least rule (books w ts)) r s

    -- too heavy in both books, or in neither
    as_heavy : (x y : Bool) (j k : Job) → y ≡ x → Later ops least rule (books w ts) j k → Exact (cond x (Err 13) (Ok j)) (cond y (Err 13) (Ok k))
    as_heavy true true j k e h = refl
    as_heavy true false j k e h = absurd (false≢true e)
    as_heavy false true j k e h = absurd (true≢false e)
    as_heavy false false j k e h = h

    exact : (i m n : ℕ) → Holds ops least (response rule place i m n) (books w ts)
    exact i m n h =
        elim (long m n) as (λ t. Exact (cond t (light ops rule (book_for one w) (granted (book_for one w) (asked (book_for one w) place i))) (Err 10)) (cond t (light ops rule (book_for other w) (granted (book_for other w) (asked (book_for other w) place i))) (Err 10))) [
          | true ↦ asks place i w (λ r s. Exact (light ops rule (book_for one w) r) (light ops rule (book_for other w) s)) (λ _. refl)
              (λ z at inside. let better = never_better rule place z at i inside h in
              as_heavy (ops.top (weight_of_all ops (asking rule place z at one i))) (ops.top (weight_of_all ops (asking rule place z at other i))) _ _ (ap ops.top better.equal_weight) better.later)
          | false ↦ refl
        ]

    no_less : (i m n : ℕ) → AllSlower count_ops count_least ts
        → Compare (λ x y. x ≤ y) (cond (long m n) (rounded_of rule (book_for one w) (granted (book_for one w) (asked (book_for one w) place i))) (Err 10)) (cond (long m n) (rounded_of rule (book_for other w) (granted (book_for other w) (asked (book_for other w) place i))) (Err 10))
    no_less i m n h =
        elim (long m n) as (λ t. Compare (λ x y. x ≤ y) (cond t (rounded_of rule (book_for one w) (granted (book_for one w) (asked (book_for one w) place i))) (Err 10)) (cond t (rounded_of rule (book_for other w) (granted (book_for other w) (asked (book_for other w) place i))) (Err 10))) [
          | true ↦ asks place i w (λ r s. Compare (λ x y. x ≤ y) (rounded_of rule (book_for one w) r) (rounded_of rule (book_for other w) s)) (λ _. refl) (λ z at inside. later_late rule place z at i inside h)
          | false ↦ refl
        ]

    abbrev Rounds : Result TaskLateness ℕ → Result TaskLateness ℕ → Type 0
    Rounds r s = Compare LaterRound r s

    -- n jobs of a round from job `from` on, in one of the books
    abbrev summed : Side → Two → ℕ → ℕ → TaskLateness
    summed s z from n = record { jobs = n; late = late_sum rule (book_for s w) place (entry_for s z) from n }

    inside_both : AllSlower count_ops count_least ts → (z : Two) → get_or w.places place None ≡ Some z → (from n : ℕ) (x y : Bool)
        → all_within (book_for one w) place (entry_for one z) from n ≡ x → all_within (book_for other w) place (entry_for other z) from n ≡ y
        → Rounds (cond x (Ok (summed one z from n)) (Err 12)) (cond y (Ok (summed other z from n)) (Err 12))
    inside_both h z at from n true true e f = (refl, later_sum rule place z at h from n e)
    inside_both h z at from n true false e f = absurd (true≢false (sym e ∙ all_within_same one other w z place from n ∙ f))
    inside_both h z at from n false true e f = absurd (false≢true (sym e ∙ all_within_same one other w z place from n ∙ f))
    inside_both h z at from n false false e f = refl

    -- the answer for n jobs in the round
    abbrev over_jobs : Side → Two → ℕ → ℕ → Result TaskLateness ℕ
    over_jobs s z round n = cond (all_within (book_for s w) place (entry_for s z) (round * n) n) (Ok (summed s z (round * n) n)) (Err 12)

    over_both : AllSlower count_ops count_least ts → (z : Two) → get_or w.places place None ≡ Some z → (round : ℕ)
        → Rounds (over_jobs one z round (round_jobs (book_for one w) (entry_for one z))) (over_jobs other z round (round_jobs (book_for other w) (entry_for other z)))
    over_both h z at round =
        let n : ℕ = round_jobs (book_for one w) (entry_for one z) in
        subst (λ (k : ℕ). Rounds (over_jobs one z round n) (over_jobs other z round k)) (round_jobs_same one other w z)
        (inside_both h z at (round * n) n (all_within (book_for one w) place (entry_for one z) (round * n) n) (all_within (book_for other w) place (entry_for other z) (round * n) n) refl refl)

    task_both : AllSlower count_ops count_least ts → (round : ℕ) (x : Option Two) → get_or w.places place None ≡ x
        → Rounds (task_of rule (book_for one w) place round (place_for one x)) (task_of rule (book_for other w) place round (place_for other x))
    task_both h round None at = refl
    task_both h round (Some z) at =
        elim (ltb round w.rounds) as (λ t. Rounds (cond t (over_jobs one z round (round_jobs (book_for one w) (entry_for one z))) (Err 11)) (cond t (over_jobs other z round (round_jobs (book_for other w) (entry_for other z))) (Err 11)))
        [ true ↦ over_both h z at round | false ↦ refl ]

    whole_round : (round m n : ℕ) → Holds ops least (task rule place round m n) (books w ts)
    whole_round round m n h =
        elim (long m n) as (λ t. Rounds (cond t (task_of rule (book_for one w) place round (get_or (book_for one w).places place None)) (Err 10)) (cond t (task_of rule (book_for other w) place round (get_or (book_for other w).places place None)) (Err 10))) [
          | true ↦ subst₂ (λ (x y : Option Entry). Rounds (task_of rule (book_for one w) place round x) (task_of rule (book_for other w) place round y))
              (sym (at_place one w.places place)) (sym (at_place other w.places place)) (task_both h round (get_or w.places place None) refl)
          | false ↦ refl
        ]

  pub holds : (q : Question) → Holds ops least q (books w ts)
  holds (response rule place i m n) = exact rule place i m n
  holds (other_response _ _ _ _ _) = tt
  holds (rounded rule place i m n) = (no_less rule place i m n, near rule (book_for one w) good.one_lawful place i m n, near rule (book_for other w) good.other_lawful place i m n)
  holds (task rule place round m n) = whole_round rule place round m n
