-- What loading a plan file gives: the book of its tasks, or the first fault.
use Rattle.std.specs.Prelude.{ℕ, cond, List, length, Some, None, Ok, Err, Option, Result, nat_le}
use Rattle.board.specs.Model.{Book, new_book}
use Rattle.planfile.specs.Faults.{Told, file_fault}
use Rattle.planfile.specs.Contents.{contents, contents_end, contents_fault, last_end}
use Rattle.planfile.specs.Bodies.{bodies_entered, and_then}

-- the first byte after the last body
abbrev pub bodies_end : List ℕ → ℕ
bodies_end f = last_end (contents_end f) (contents f)

-- a book, where the file ends with its last body
abbrev pub ended : List ℕ → Book → Result Book Told
ended f b = cond (nat_le (length f) (bodies_end f)) (Ok b) (Err (file_fault 23 (bodies_end f)))

-- a result, unless there was a fault before it
abbrev pub unless : Option Told → Result Book Told → Result Book Told
unless (Some t) r = Err t
unless None r = r

-- the contents first, whole; then the bodies in their order; then what follows the last
unfoldable pub loaded : List ℕ → Result Book Told
loaded f = unless (contents_fault f) (and_then (bodies_entered f new_book (contents f)) (ended f))

-- the fault, where there is one
abbrev pub fault_of : Result Book Told → Option Told
fault_of (Ok b) = None
fault_of (Err t) = Some t

-- the book that was loaded, or the old one
abbrev pub book_or : Result Book Told → Book → Book
book_or (Ok b) old = b
book_or (Err t) old = old
