-- The text of each answer that has one line.
use Rattle.std.specs.Prelude.{ℕ, List, ◌++◌, codes}
use Rattle.book.specs.declared.lateness.TaskLateness.{TaskLateness}
use Rattle.book.specs.Refusals.{number}
use Rattle.texts.specs.Texts.{field, ending}
use Rattle.answers.specs.declared.answers.Answer.{Answer}
use Rattle.answers.specs.declared.answers.Answer.TheVariants.{Done, Refused, Late, Task, IssueFirst, ReopenFirst, Unreadable}

-- the jobs of a task in a round, and their late weight
abbrev pub task_text : TaskLateness → List ℕ
task_text t = field (codes "jobs ") t.jobs ++ ending (codes " late ") t.late

-- the line of an answer
abbrev pub answer_text : Answer → List ℕ
answer_text Done = codes "ok\n"
answer_text (Refused r) = ending (codes "refused ") (number r)
answer_text (Late weight) = ending (codes "late ") weight
answer_text (Task t) = task_text t
answer_text IssueFirst = codes "not now: issue it first\n"
answer_text ReopenFirst = codes "not now: reopen it first\n"
answer_text (Unreadable line) = ending (codes "unreadable: ") line
