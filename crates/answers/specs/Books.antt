-- The text of a book: whether it is a draft or a plan, its rounds and opening table, and a line for each task.
use Rattle.std.specs.Prelude.{ℕ, List, [], ◌++◌, Some, None, codes, decimal, Option, slice_index_or}
use Rattle.std.specs.List.{flat_map}
use Rattle.analysis.specs.declared.pair.Pair.{Pair}
use Rattle.board.specs.Model.{Entry, Book}
use Rattle.texts.specs.Texts.{in_turn, field}

-- a blank, a time and its weight
abbrev pub pair_text : Pair → List ℕ
pair_text p = field (codes " ") p.time ++ field (codes ":") p.weight

-- a label and the pairs of a table, which end the line
abbrev pub table_text : List ℕ → List Pair → List ℕ
table_text label ps = label ++ (flat_map pair_text ps ++ codes "\n")

-- the line of a task
abbrev pub entry_text : ℕ → Entry → List ℕ
entry_text place e = decimal place ++ (field (codes " period ") e.period ++ (field (codes " phase ") e.phase ++ (field (codes " deadline ") e.deadline ++ table_text (codes " table") e.pairs)))

-- an empty place has no line
abbrev pub place_text : ℕ → Option Entry → List ℕ
place_text place None = []
place_text place (Some e) = entry_text place e

-- the lines of the sixteen places
abbrev pub places_text : List (Option Entry) → List ℕ
places_text ps = in_turn (λ place. place_text place (slice_index_or ps place None)) 16

-- a first line, the line of the rounds and the opening table, and the lines of the places
abbrev pub book_text : List ℕ → Book → List ℕ
book_text first b = first ++ (field (codes "rounds ") b.rounds ++ (table_text (codes " opening") b.opening ++ places_text b.places))

-- what is shown of a draft
abbrev pub draft_text : Book → List ℕ
draft_text b = book_text (codes "draft\n") b

-- what is shown of a plan
abbrev pub plan_text : Book → List ℕ
plan_text b = book_text (codes "plan\n") b
