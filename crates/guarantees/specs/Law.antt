-- The law over runs: slower tables of equal totals never make an answer better, and a rounded answer is close to the exact one.
use Rattle.std.specs.Prelude.{◌≡◌, ℕ, ◌^◌, ◌≤◌, List, [], ◌∷◌, length, Ok, Err, Result}
use Rattle.theory.specs.Semiring.{Ops}
use Rattle.theory.specs.Sums.{over}
use Rattle.theory.specs.Walk.{Worse}
use Rattle.theory.specs.Rounded.{nat_ops, totals, Close}
use Rattle.analysis.specs.declared.pair.Pair.{Pair}
use Rattle.kinds.specs.Counts.{count_ops, count_least}
use Rattle.scenarios.specs.Questions.{drawn_from, tables, weight_of}
use Rattle.book.specs.declared.lateness.TaskLateness.{TaskLateness}
use Rattle.board.specs.Model.{Book}
use Rattle.board.specs.Jobs.{Rule, Job, asked}
use Rattle.board.specs.Questions.{question_of}
use Rattle.book.specs.Asks.{granted, rounded_answer, response_answer, task_answer}
use Rattle.guarantees.specs.Runs.{Tables, Question, Call, Books, new_books, Allowed, after, Together}
use Rattle.guarantees.specs.Runs.{response, other_response, rounded, task, edit, issue, ask, reopen, draft}

-- the second table is worse than the first in a kind, and of equal total
pub record Slower {K : Type 0} (ops : Ops K) (least : K → K → Type 0) (x y : List Pair) : Type 0 where
  pub worse : Worse ops least (drawn_from y) (drawn_from x)
  pub equal_total : over ops (drawn_from y) (λ p. ops.read p.1) ≡ over ops (drawn_from x) (λ p. ops.read p.1)

abbrev pub AllSlower : {K : Type 0} → Ops K → (K → K → Type 0) → List Tables → Type 0
AllSlower ops least [] = Unit {0}
AllSlower ops least (t ∷ ts) = Slower ops least t.first t.second × AllSlower ops least ts

-- equal refusals: the same number in both books, or none; and the values of two answers compare
abbrev pub Compare : {X : Type 0} → (X → X → Type 0) → Result X ℕ → Result X ℕ → Type 0
Compare P (Ok x) (Ok y) = P x y
Compare P (Ok x) (Err n) = ⊥
Compare P (Err m) (Ok y) = ⊥
Compare P (Err m) (Err n) = m ≡ n

-- the late weight of the job in the second book is at least that in the first
abbrev pub Later : {K : Type 0} → Ops K → (K → K → Type 0) → Rule → Books → Job → Job → Type 0
Later ops least rule b j k = least (weight_of ops (question_of rule b.second k) 256) (weight_of ops (question_of rule b.first j) 256)

-- as many jobs, and a sum of late weights that is no smaller
abbrev pub LaterRound : TaskLateness → TaskLateness → Type 0
LaterRound x y = (x.jobs ≡ y.jobs) × (x.late ≤ y.late)

-- a rounded answer R over 1,048,576 is at least the exact late share of the job, and exceeds it by less than 1/1,048,576 for each counted table
abbrev pub Near : Rule → Book → ℕ → ℕ → ℕ → ℕ → Type 0
Near rule b place index m n =
    (j : Job) (R : ℕ) → granted b (asked b place index) ≡ Ok j → rounded_answer rule b place index m n ≡ Ok R
    → Close (2 ^ 20) (totals (tables (question_of rule b j))) (length (tables (question_of rule b j))) (weight_of nat_ops (question_of rule b j) 256) R

-- what holds of the answers to a question
abbrev pub Holds : {K : Type 0} → Ops K → (K → K → Type 0) → Question → Books → Type 0
Holds ops least (response rule place index m n) b =
    AllSlower ops least b.taken
    → Compare (Later ops least rule b) (response_answer ops rule b.first place index m n) (response_answer ops rule b.second place index m n)
Holds ops least (other_response _ _ _ _ _) b = Unit {0}
Holds ops least (rounded rule place index m n) b =
    (AllSlower count_ops count_least b.taken
    → Compare (λ x y. x ≤ y) (rounded_answer rule b.first place index m n) (rounded_answer rule b.second place index m n))
    × Near rule b.first place index m n × Near rule b.second place index m n
Holds ops least (task rule place round m n) b =
    AllSlower count_ops count_least b.taken
    → Compare LaterRound (task_answer rule b.first place round m n) (task_answer rule b.second place round m n)

-- at each question of a list of calls
abbrev pub HoldsAlong : {K : Type 0} → Ops K → (K → K → Type 0) → Books → List Call → Type 0
HoldsAlong ops least b [] = Unit {0}
HoldsAlong ops least b (edit e ∷ cs) = HoldsAlong ops least (after (edit e) b) cs
HoldsAlong ops least b (issue ∷ cs) = HoldsAlong ops least b cs
HoldsAlong ops least b (ask q ∷ cs) = Holds ops least q b × HoldsAlong ops least b cs
HoldsAlong ops least b (reopen ∷ cs) = HoldsAlong ops least b cs

-- from two new drafts on, for every list of calls that the states allow and whose tables both books take or both refuse
abbrev pub Law : {K : Type 0} → Ops K → (K → K → Type 0) → Type 0
Law ops least = (calls : List Call) → Allowed draft calls → Together new_books calls → HoldsAlong ops least new_books calls
