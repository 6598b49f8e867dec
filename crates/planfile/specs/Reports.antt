-- The text of the report on a plan file.
use Rattle.std.specs.Prelude.{ℕ, zero, suc, List, [], ◌∷◌, ◌++◌, Some, None, Ok, Err, codes, decimal, Option, Result, slice_index_or}
use Rattle.analysis.specs.Ranks.{deadline_rank}
use Rattle.book.specs.declared.lateness.TaskLateness.{TaskLateness}
use Rattle.board.specs.Model.{Entry, Book}
use Rattle.board.specs.Jobs.{Rule}
use Rattle.book.specs.Asks.{task_answer}
use Rattle.planfile.specs.Faults.{Told}
use Rattle.planfile.specs.Loads.{loaded}

-- a number in decimal, and the byte that ends it
abbrev pub field : ℕ → ℕ → List ℕ
field n end = decimal n ++ end ∷ []

-- three numbers, one blank apart, and a line feed
abbrev pub line : ℕ → ℕ → ℕ → List ℕ
line a b c = field a 32 ++ (field b 32 ++ field c 10)

-- a place and the number of a refusal
abbrev pub refused_line : ℕ → ℕ → List ℕ
refused_line place n = field place 32 ++ (codes "refused " ++ field n 10)

-- a fault, by its layer, its number and its offset
abbrev pub fault_line : Told → List ℕ
fault_line t = codes "fault " ++ line t.layer t.number t.offset

abbrev pub header : List ℕ
header = codes "place jobs late\n"

-- the earlier deadline goes ahead
abbrev pub by_deadline : Rule
by_deadline _ _ deadline release = deadline_rank deadline release

-- the jobs of a place in a round and the sum of their late weights, or why there is no answer
abbrev pub answer_line : ℕ → Result TaskLateness ℕ → List ℕ
answer_line place (Ok x) = line place x.jobs x.late
answer_line place (Err n) = refused_line place n

-- an occupied place has a line: what is told of its task in round 0 under the deadline rule
abbrev pub place_line : Book → ℕ → Option Entry → List ℕ
place_line b place None = []
place_line b place (Some _) = answer_line place (task_answer by_deadline b place 0 257 257)

-- the lines of the first n places
unfoldable pub place_lines : Book → ℕ → List ℕ
place_lines b zero = []
place_lines b (suc n) = place_lines b n ++ place_line b n (slice_index_or b.places n None)

abbrev pub book_text : Book → List ℕ
book_text b = header ++ place_lines b 16

abbrev pub outcome_text : Result Book Told → List ℕ
outcome_text (Ok b) = book_text b
outcome_text (Err t) = fault_line t

-- the fault alone, or the lines of the book that was loaded
abbrev pub report_text : List ℕ → List ℕ
report_text f = outcome_text (loaded f)
