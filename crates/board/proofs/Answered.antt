-- The sheet of the exact walk, with the late cells gathered, is the answer in the words of the scenarios.
use Rattle.std.proofs.Common.{◌≡◌, ℕ, ◌+◌, ◌<◌, ◌≤◌, true, leb, List, Option, sym, ap, ◌∙◌, ⊎_elim, arith}
use Rattle.std.proofs.lemmas.Bool.{cases_lt, cond-true, cond-false, le-leb, lt-leb, lt-ltb, le-ltb, eq-eqb, ne_eqb}
use Rattle.theory.specs.Semiring.{Ops, Laws}
use Rattle.analysis.specs.declared.pair.Pair.{Pair}
use Rattle.scenarios.specs.Questions.{Question, answer}
use Rattle.scenarios.specs.Walks.{unsettled, exact_sheet}
use Rattle.scenarios.specs.Theorems.{WalkAnswers}
use Rattle.scenarios.proofs.Exact.{exact_answers}
use Rattle.board.specs.Pairs.{lawful}
use Rattle.board.specs.Model.{Entry, all_lawful}
use Rattle.board.specs.Jobs.{Rule, Job}
use Rattle.board.specs.Found.{Stands}
use Rattle.board.specs.Questions.{question_over}
use Rattle.board.specs.Walk.{walked_sheet, gathered_late}
use Rattle.board.proofs.Walked.{sheet_same}
use Rattle.board.proofs.Sound.{sound_question}

module _ {K : Type 0} {o : Ops K} {least : K → K → Type 0} (laws : Laws o least) where
  gathered_answer : (q : Question) (old : ℕ → K) → WalkAnswers o q → (k : ℕ) → k < 257 → gathered_late o q.deadline (exact_sheet o q) k ≡ answer o q old k
  unfolding gathered_late answer
  gathered_answer q old w k h =
      ⊎_elim
      (λ (l : k < q.deadline + 1).
      let in_it : leb k q.deadline ≡ true = le-leb k q.deadline (omega arith) in
      cond-true _ _ _ in_it ∙ w.in_time k (omega arith) ∙ sym (cond-true _ _ _ in_it))
      (λ (l : q.deadline + 1 ≤ k).
      let past = lt-leb k q.deadline (omega arith) in
      ⊎_elim
      (λ (m : k < 256). cond-false _ _ _ past ∙ cond-true _ _ _ (lt-ltb k 256 m) ∙ sym (cond-false _ _ _ past ∙ cond-true _ _ _ (lt-ltb k 256 m)))
      (λ (m : 256 ≤ k).
      let at : k ≡ 256 = omega arith in
      cond-false _ _ _ past ∙ cond-false _ _ _ (le-ltb k 256 m) ∙ cond-true _ _ _ (eq-eqb k 256 at) ∙ w.late
      ∙ sym (cond-false _ _ _ past ∙ cond-false _ _ _ (le-ltb k 256 m) ∙ cond-true _ _ _ (eq-eqb k 256 at)))
      (cases_lt k 256))
      (cases_lt k (q.deadline + 1))

  pub exact_answer : (rule : Rule) (ps : List (Option Entry)) (opening : List Pair) (j : Job) (old : ℕ → K) → all_lawful ps ≡ true → lawful opening ≡ true → Stands ps j
      → (k : ℕ) → k < 257 → gathered_late o j.entry.deadline (walked_sheet o unsettled o.unit rule ps opening j) k ≡ answer o (question_over rule ps opening j) old k
  exact_answer rule ps opening j old ok first s k h =
      ap (λ f. gathered_late o j.entry.deadline f k) (sheet_same rule ps opening j o unsettled o.unit)
      ∙ gathered_answer (question_over rule ps opening j) old (exact_answers laws (question_over rule ps opening j) (sound_question rule ps opening j ok first s)) k h

-- cells after the first 257 stay
pub answer_past : {K : Type 0} (o : Ops K) (q : Question) (f : ℕ → K) (k : ℕ) → q.deadline ≤ 254 → 257 ≤ k → answer o q f k ≡ f k
unfolding answer
answer_past o q f k small h =
    cond-false _ _ _ (lt-leb k q.deadline (omega arith)) ∙ cond-false _ _ _ (le-ltb k 256 (omega arith)) ∙ cond-false _ _ _ (ne_eqb k 256 (λ e. omega arith))
