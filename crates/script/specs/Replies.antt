-- What a call of a script prints, and where the script stands after it.
use Rattle.std.specs.Prelude.{ℕ, Bool, cond, List, [], codes, ◌==◌}
use Rattle.board.specs.Model.{Book, Entry}
use Rattle.book.specs.Moves.{enter_refusal, entered, withdraw_refusal, withdrawn, opening_refusal, with_opening, rounds_refusal, with_rounds}
use Rattle.lines.specs.declared.calls.Call.{Call}
use Rattle.lines.specs.declared.calls.Call.TheVariants.{Enter, Withdraw, Opening, Rounds, Issue, Reopen, Response, Rounded, Task, Show}
use Rattle.lines.specs.declared.reading.Line.{Line}
use Rattle.lines.specs.declared.reading.Line.TheVariants.{Passed, Call as Calls, Unreadable}
use Rattle.lines.specs.declared.tables.PairList.{PairList}
use Rattle.lines.specs.Tables.{listed}
use Rattle.lines.specs.Ranks.{rule_rank}
use Rattle.book.specs.Asks.{rounded_answer, task_answer}
use Rattle.script.specs.Questions.{refused_text, kind_text, rounded_text, task_answer_text}
use Rattle.texts.specs.Texts.{ending}
use Rattle.answers.specs.Books.{draft_text, plan_text}
use Rattle.script.specs.States.{State, Drafted, Issued}

-- an edit is done, or refused by a number
abbrev pub done_text : ℕ → List ℕ
done_text n = cond (n == 0) (codes "ok\n") (refused_text n)

abbrev pub entry : ℕ → ℕ → ℕ → PairList → Entry
entry period phase deadline table = record { period = period; phase = phase; deadline = deadline; pairs = listed table }

-- a call that needs a plan
abbrev pub issue_first : List ℕ
issue_first = codes "not now: issue it first\n"

-- a call that needs a draft
abbrev pub reopen_first : List ℕ
reopen_first = codes "not now: reopen it first\n"

-- what a call on a draft prints
abbrev pub draft_reply : Book → Call → List ℕ
draft_reply b (Enter place period phase deadline table) = done_text (enter_refusal b place (entry period phase deadline table))
draft_reply b (Withdraw place) = done_text (withdraw_refusal b place)
draft_reply b (Opening table) = done_text (opening_refusal (listed table))
draft_reply b (Rounds n) = done_text (rounds_refusal n)
draft_reply b Issue = codes "ok\n"
draft_reply b Show = draft_text b
draft_reply b Reopen = issue_first
draft_reply b (Response kind rule place index) = issue_first
draft_reply b (Rounded rule place index) = issue_first
draft_reply b (Task rule place round) = issue_first

-- where a call on a draft leads
abbrev pub draft_after : Book → Call → State
draft_after b (Enter place period phase deadline table) = Drafted (entered b place (entry period phase deadline table))
draft_after b (Withdraw place) = Drafted (withdrawn b place)
draft_after b (Opening table) = Drafted (with_opening b (listed table))
draft_after b (Rounds n) = Drafted (with_rounds b n)
draft_after b Issue = Issued b
draft_after b Show = Drafted b
draft_after b Reopen = Drafted b
draft_after b (Response kind rule place index) = Drafted b
draft_after b (Rounded rule place index) = Drafted b
draft_after b (Task rule place round) = Drafted b

-- what a call on a plan prints
abbrev pub plan_reply : Bool → Book → Call → List ℕ
plan_reply chart b (Enter place period phase deadline table) = reopen_first
plan_reply chart b (Withdraw place) = reopen_first
plan_reply chart b (Opening table) = reopen_first
plan_reply chart b (Rounds n) = reopen_first
plan_reply chart b Issue = reopen_first
plan_reply chart b Reopen = codes "ok\n"
plan_reply chart b (Response kind rule place index) = kind_text chart kind (rule_rank rule) b place index
plan_reply chart b (Rounded rule place index) = rounded_text (rounded_answer (rule_rank rule) b place index 257 257)
plan_reply chart b (Task rule place round) = task_answer_text (task_answer (rule_rank rule) b place round 257 257)
plan_reply chart b Show = plan_text b

-- where a call on a plan leads
abbrev pub plan_after : Book → Call → State
plan_after b (Enter place period phase deadline table) = Issued b
plan_after b (Withdraw place) = Issued b
plan_after b (Opening table) = Issued b
plan_after b (Rounds n) = Issued b
plan_after b Issue = Issued b
plan_after b Reopen = Drafted b
plan_after b (Response kind rule place index) = Issued b
plan_after b (Rounded rule place index) = Issued b
plan_after b (Task rule place round) = Issued b
plan_after b Show = Issued b

-- what a call prints
abbrev pub reply : Bool → State → Call → List ℕ
reply chart (Drafted b) call = draft_reply b call
reply chart (Issued b) call = plan_reply chart b call

-- where a call leads
abbrev pub after : State → Call → State
after (Drafted b) call = draft_after b call
after (Issued b) call = plan_after b call

-- what the line with a number prints
abbrev pub line_reply : Bool → ℕ → State → Line → List ℕ
line_reply chart number s Passed = []
line_reply chart number s (Calls call) = reply chart s call
line_reply chart number s Unreadable = ending (codes "unreadable: ") number

-- where a line leads
abbrev pub line_after : State → Line → State
line_after s Passed = s
line_after s (Calls call) = after s call
line_after s Unreadable = s
