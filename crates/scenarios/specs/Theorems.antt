-- What is proved of a question's walk.
use Rattle.std.specs.Prelude.{◌≡◌, ℕ, ◌+◌, ◌^◌, ◌<◌, ◌≤◌, List, [], ◌∷◌, length}
use Rattle.theory.specs.Semiring.{Ops}
use Rattle.theory.specs.Sums.{over}
use Rattle.theory.specs.Walk.{Worse}
use Rattle.theory.specs.Rounded.{nat_ops, totals, Close}
use Rattle.analysis.specs.declared.pair.Pair.{Pair}
use Rattle.analysis.specs.Cells.{tail}
use Rattle.kinds.specs.Counts.{count_ops, count_least}
use Rattle.scenarios.specs.Questions.{Counted, Question, counted, upto, drawn_from, tables, weight_of, weight_of_all}
use Rattle.scenarios.specs.Walks.{exact_sheet, rounded_late}

-- each time is below 256
abbrev pub Small : List Pair → Type 0
Small [] = Unit {0}
Small (p ∷ ps) = (p.time < 256) × Small ps

-- a table of small times, whose weights add up to 1 to 65,535
pub record Fit (pairs : List Pair) : Type 0 where
  pub small : Small pairs
  pub some : 1 ≤ over nat_ops (drawn_from pairs) (λ x. x.1)
  pub most : over nat_ops (drawn_from pairs) (λ x. x.1) ≤ 65535

abbrev pub AllFit : List Counted → Type 0
AllFit [] = Unit {0}
AllFit (k ∷ ks) = Fit k.pairs × AllFit ks

-- the releases do not fall, from low on
abbrev pub InOrder : ℕ → List Counted → Type 0
InOrder low [] = Unit {0}
InOrder low (k ∷ ks) = (low ≤ k.release) × InOrder k.release ks

abbrev pub AllBefore : ℕ → List Counted → Type 0
AllBefore end [] = Unit {0}
AllBefore end (k ∷ ks) = (k.release < end) × AllBefore end ks

pub record Sound (q : Question) : Type 0 where
  pub deadline_small : q.deadline ≤ 254
  pub first_in_order : InOrder 0 (upto q)
  pub then_in_order : InOrder (q.job.release + 1) q.later
  pub in_reach : AllBefore (q.job.release + q.deadline) q.later
  pub opening_fits : Fit q.opening
  pub jobs_fit : AllFit (counted q)

-- each cell up to the deadline holds the weight of exactly the scenarios with that response, and the tail after it that of all others
pub record WalkAnswers {K : Type 0} (ops : Ops K) (q : Question) : Type 0 where
  pub in_time : (v : ℕ) → v ≤ q.deadline → exact_sheet ops q v ≡ weight_of ops q v
  pub late : tail ops (exact_sheet ops q) (q.deadline + 1) ≡ weight_of ops q 256

abbrev pub ExactAnswers : {K : Type 0} → Ops K → Type 0
ExactAnswers ops = (q : Question) → Sound q → WalkAnswers ops q

-- job by job the same release, and a worse table of equal total
abbrev pub Harder : {K : Type 0} → Ops K → (K → K → Type 0) → List Counted → List Counted → Type 0
Harder ops least [] [] = Unit {0}
Harder ops least [] (k ∷ ks) = ⊥
Harder ops least (l ∷ ls) [] = ⊥
Harder ops least (l ∷ ls) (k ∷ ks) =
    (l.release ≡ k.release) × Worse ops least (drawn_from l.pairs) (drawn_from k.pairs)
    × (over ops (drawn_from l.pairs) (λ x. ops.read x.1) ≡ over ops (drawn_from k.pairs) (λ x. ops.read x.1))
    × Harder ops least ls ks

-- q asks what r asks, over worse tables of equal total
pub record WorseQuestion {K : Type 0} (ops : Ops K) (least : K → K → Type 0) (q r : Question) : Type 0 where
  pub same_deadline : q.deadline ≡ r.deadline
  pub same_release : q.job.release ≡ r.job.release
  pub opening_worse : Worse ops least (drawn_from q.opening) (drawn_from r.opening)
  pub opening_total : over ops (drawn_from q.opening) (λ x. ops.read x.1) ≡ over ops (drawn_from r.opening) (λ x. ops.read x.1)
  pub before_worse : Harder ops least (upto q) (upto r)
  pub later_worse : Harder ops least q.later r.later

-- the late weight of a worse question is at least as large, and the weight of all scenarios is equal
pub record NeverBetter {K : Type 0} (ops : Ops K) (least : K → K → Type 0) (q r : Question) : Type 0 where
  pub later : least (weight_of ops q 256) (weight_of ops r 256)
  pub equal_weight : weight_of_all ops q ≡ weight_of_all ops r

abbrev pub ExactNeverBetter : {K : Type 0} → Ops K → (K → K → Type 0) → Type 0
ExactNeverBetter ops least = (q r : Question) → Sound q → Sound r → WorseQuestion ops least q r → NeverBetter ops least q r

-- a rounded late weight over 1,048,576 is at least the exact late share, and exceeds it by less than 1/1,048,576 for each counted table
abbrev pub RoundedClose : Type 0
RoundedClose =
    (q : Question) → Sound q
    → Close (2 ^ 20) (totals (tables q)) (length (tables q)) (weight_of nat_ops q 256) (rounded_late q)

-- a worse question has a rounded late weight that is no smaller
abbrev pub RoundedNeverBetter : Type 0
RoundedNeverBetter = (q r : Question) → Sound q → Sound r → WorseQuestion count_ops count_least q r → rounded_late r ≤ rounded_late q
