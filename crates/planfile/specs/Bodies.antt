-- The bodies of a plan file: the task of each, and where its refusal is told.
use Rattle.std.specs.Prelude.{ℕ, ◌+◌, ◌*◌, Bool, true, cond, ◌&&◌, List, [], ◌∷◌, map, length, Some, None, Ok, Err, Option, Result, ◌==◌, nat_le}
use Rattle.std.specs.List.{range_with_len}
use Rattle.std.specs.Option.{option_or, unwrap_or}
use Rattle.analysis.specs.declared.pair.Pair.{Pair}
use Rattle.board.specs.Model as model
use Rattle.board.specs.Model.{Book}
use Rattle.book.specs.Moves.{enter_refusal, entered}
use Rattle.planfile.specs.declared.contents.Entry.{Entry}
use Rattle.planfile.specs.Faults.{Told, book_fault}
use Rattle.planfile.specs.Fields.{byte, word, pair}
use Rattle.planfile.specs.Contents.{pair_count}

-- n pairs, from at on
unfoldable pub pairs : List ℕ → ℕ → ℕ → List Pair
pairs f at n = map (λ k. pair f (at + 3 * k)) (range_with_len 0 n)

-- the pairs of a body follow its first six bytes
abbrev pub body_pairs : List ℕ → Entry → List Pair
body_pairs f e = pairs f (e.start + 6) (pair_count f e)

-- the task of a body
abbrev pub task : List ℕ → Entry → model.Entry
task f e = record { period = word f e.start; phase = word f (e.start + 2); deadline = byte f (e.start + 4); pairs = body_pairs f e }

-- the number with which the book refuses the task, or 0
unfoldable pub body_refusal : List ℕ → Book → Entry → ℕ
body_refusal f b e = enter_refusal b e.place (task f e)

-- where the first wrong pair stands, of the pairs from at on: one with weight 0, or with a time below low, which is one above the time of the pair before it
abbrev pub first_wrong : List Pair → ℕ → ℕ → Option ℕ
first_wrong [] low at = None
first_wrong (p ∷ ps) low at = cond (nat_le low p.time && nat_le 1 p.weight) (first_wrong ps (p.time + 1) (at + 3)) (Some at)

-- the first wrong pair of a body
abbrev pub wrong_pair : List ℕ → Entry → Option ℕ
wrong_pair f e = first_wrong (body_pairs f e) 0 (e.start + 6)

-- where a refused table is told: at the number of pairs where that is not 1 to 16, else at the first wrong pair, else at the number of pairs
abbrev pub table_offset : List ℕ → Entry → ℕ
table_offset f e = cond (nat_le 1 (pair_count f e) && nat_le (pair_count f e) 16) (unwrap_or (wrong_pair f e) (e.start + 5)) (e.start + 5)

-- where a refusal is told: at the body, but for a table
unfoldable pub refusal_offset : List ℕ → Entry → ℕ → ℕ
refusal_offset f e n = cond (n == 5) (table_offset f e) e.start

-- the book after a body has been entered, or its refusal
unfoldable pub body_entered : List ℕ → Book → Entry → Result Book Told
body_entered f b e =
    cond (body_refusal f b e == 0) (Ok (entered b e.place (task f e))) (Err (book_fault (body_refusal f b e) (refusal_offset f e (body_refusal f b e))))

-- a step that follows where there was no fault
abbrev pub and_then : {X Y : Type 0} → Result X Told → (X → Result Y Told) → Result Y Told
and_then (Ok x) next = next x
and_then (Err t) next = Err t

-- the book after each body has been entered in turn, or the first refusal
abbrev pub bodies_entered : List ℕ → Book → List Entry → Result Book Told
bodies_entered f b [] = Ok b
bodies_entered f b (e ∷ es) = and_then (body_entered f b e) (λ next. bodies_entered f next es)

-- the first wrong pair of several bodies
abbrev pub wrong_in : List ℕ → List Entry → Option ℕ
wrong_in f [] = None
wrong_in f (e ∷ es) = option_or (wrong_pair f e) (wrong_in f es)

-- each body lies in the file, with its pairs
abbrev pub within : List ℕ → List Entry → Bool
within f [] = true
within f (e ∷ es) = nat_le (e.start + 6 + 3 * pair_count f e) (length f) && within f es
