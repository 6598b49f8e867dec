-- Whether a job stands in a book.
use Rattle.std.specs.Prelude.{Bool, true, false, ◌&&◌, List, [], ◌∷◌, Some, None, Option, ◌==◌, nat_le, slice_index_or}
use Rattle.analysis.specs.declared.pair.Pair.{Pair}
use Rattle.board.specs.Model.{Entry}
use Rattle.board.specs.Jobs.{Job, due, releases}

abbrev pub same_pairs : List Pair → List Pair → Bool
same_pairs [] [] = true
same_pairs [] (q ∷ qs) = false
same_pairs (p ∷ ps) [] = false
same_pairs (p ∷ ps) (q ∷ qs) = (p.time == q.time && p.weight == q.weight) && same_pairs ps qs

abbrev pub same_entry : Entry → Entry → Bool
same_entry e f = (e.period == f.period && e.phase == f.phase) && (e.deadline == f.deadline && same_pairs e.pairs f.pairs)

-- the entry is what stands at the place
abbrev pub holds : Option Entry → Entry → Bool
holds None e = false
holds (Some f) e = same_entry f e

-- the job's task stands at its place and releases it, and its deadline falls within the longest window
abbrev pub stands : List (Option Entry) → Job → Bool
stands ps j = holds (slice_index_or ps j.place None) j.entry && (releases j.entry j.release && nat_le (due j) 32768)
