-- Where a script stands.
use Rattle.board.specs.Model.{Book}
use Rattle.book.specs.Drafts.{draft_book, plan_book}
use Rattle.script.specs.declared.scripts.ScriptBook.{ScriptBook}
use Rattle.script.specs.declared.scripts.ScriptBook.TheVariants.{Draft, Plan}

-- with a draft, or with the plan that it issued
pub data State : Type 0 where
  Drafted : Book → State
  Issued : Book → State

abbrev pub state_of : ScriptBook → State
state_of (Draft d) = Drafted (draft_book d)
state_of (Plan p) = Issued (plan_book p)
