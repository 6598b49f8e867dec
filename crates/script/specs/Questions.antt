-- What a question of a script prints.
use Rattle.std.specs.Prelude.{ℕ, Bool, cond, List, [], ◌++◌, replicate, Ok, Err, codes, decimal, Result}
use Rattle.theory.specs.Semiring.{Ops}
use Rattle.kinds.specs.Counts.{count_ops}
use Rattle.kinds.specs.Heaviests.{heaviest_ops}
use Rattle.kinds.specs.Possibles.{possible_ops}
use Rattle.analysis.specs.Cells.{cells}
use Rattle.scenarios.specs.Questions.{answer}
use Rattle.board.specs.Model.{Book}
use Rattle.board.specs.Jobs.{Rule, Job}
use Rattle.board.specs.Questions.{question_of}
use Rattle.book.specs.Asks.{response_answer}
use Rattle.book.specs.declared.lateness.TaskLateness.{TaskLateness}
use Rattle.texts.specs.Texts.{ending, possible_size, possible_text}
use Rattle.answers.specs.Answers.{task_text}
use Rattle.answers.specs.Responses.{response_text}
use Rattle.answers.specs.Charts.{chart_text}
use Rattle.lines.specs.declared.rules.Kind.{Kind}
use Rattle.lines.specs.declared.rules.Kind.TheVariants.{Counts, Possible, Heaviest}

-- a refusal by its number
abbrev pub refused_text : ℕ → List ℕ
refused_text n = ending (codes "refused ") n

-- a sheet of noughts
abbrev pub blank_sheet : {K : Type 0} → Ops K → ℕ → K
blank_sheet ops = cells ops (replicate 257 ops.nought)

-- the line of a sheet, and its chart where one is wanted
abbrev pub drawn : {K : Type 0} → Bool → (K → ℕ) → (K → List ℕ) → (ℕ → K) → List ℕ
drawn chart size text f = response_text size text f ++ cond chart (chart_text size f) []

-- response in a kind, whose elements have sizes and texts, on a sheet f
abbrev pub sheet_text : {K : Type 0} → Bool → Ops K → (K → ℕ) → (K → List ℕ) → Rule → Book → (ℕ → K) → Result Job ℕ → List ℕ
sheet_text chart ops size text rule b f (Ok j) = drawn chart size text (answer ops (question_of rule b j) f)
sheet_text chart ops size text rule b f (Err n) = refused_text n

-- response for job `index` of a place, in a kind
abbrev pub job_text : {K : Type 0} → Bool → Ops K → (K → ℕ) → (K → List ℕ) → Rule → Book → ℕ → ℕ → List ℕ
job_text chart ops size text rule b place index =
    sheet_text chart ops size text rule b (blank_sheet ops) (response_answer ops rule b place index 257 257)

-- response in the kind that a line names
abbrev pub kind_text : Bool → Kind → Rule → Book → ℕ → ℕ → List ℕ
kind_text chart Counts = job_text chart count_ops (λ x. x.value) (λ x. decimal x.value)
kind_text chart Possible = job_text chart possible_ops possible_size possible_text
kind_text chart Heaviest = job_text chart heaviest_ops (λ x. x.value) (λ x. decimal x.value)

-- rounded
abbrev pub rounded_text : Result ℕ ℕ → List ℕ
rounded_text (Ok weight) = ending (codes "late ") weight
rounded_text (Err n) = refused_text n

-- task
abbrev pub task_answer_text : Result TaskLateness ℕ → List ℕ
task_answer_text (Ok t) = task_text t
task_answer_text (Err n) = refused_text n
