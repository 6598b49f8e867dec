-- Calls that are made on two books at once, which agree in every argument but for the time tables, and the books after them.
use Rattle.std.specs.Prelude.{◌≡◌, ℕ, cond, List, [], ◌∷◌, ◌++◌, ◌==◌}
use Rattle.analysis.specs.declared.pair.Pair.{Pair}
use Rattle.board.specs.Model.{Entry, Book, new_book}
use Rattle.board.specs.Jobs.{Rule}
use Rattle.book.specs.Moves.{enter_refusal, entered, withdraw_refusal, withdrawn, opening_refusal, with_opening, rounds_refusal, with_rounds}

-- a table for each of the two books
pub record Tables : Type 0 where
  pub first : List Pair
  pub second : List Pair

-- the calls that edit a draft
pub data Edit : Type 0 where
  enter : (place period phase deadline : ℕ) (tables : Tables) → Edit
  withdraw : (place : ℕ) → Edit
  opening : (tables : Tables) → Edit
  rounds : (number : ℕ) → Edit

-- the calls that question a plan: exact in the kind that is compared and in any other kind, rounded, and for a round; m and n are the lengths of the two sheets
pub data Question : Type 0 where
  response : (rule : Rule) (place index m n : ℕ) → Question
  other_response : (rule : Rule) (place index m n : ℕ) → Question
  rounded : (rule : Rule) (place index m n : ℕ) → Question
  task : (rule : Rule) (place round m n : ℕ) → Question

pub data Call : Type 0 where
  edit : Edit → Call
  issue : Call
  ask : Question → Call
  reopen : Call

-- a book is a draft or a plan
pub data State : Type 0 where
  draft : State
  plan : State

-- each call stands in a state that allows it: edits and issue on a draft, questions and reopen on a plan
abbrev pub Allowed : State → List Call → Type 0
Allowed s [] = Unit {0}
Allowed draft (edit _ ∷ cs) = Allowed draft cs
Allowed draft (issue ∷ cs) = Allowed plan cs
Allowed draft (ask _ ∷ cs) = ⊥
Allowed draft (reopen ∷ cs) = ⊥
Allowed plan (edit _ ∷ cs) = ⊥
Allowed plan (issue ∷ cs) = ⊥
Allowed plan (ask _ ∷ cs) = Allowed plan cs
Allowed plan (reopen ∷ cs) = Allowed draft cs

-- which of the two tables a book is given
abbrev pub Side : Type 0
Side = Tables → List Pair

abbrev pub one : Side
one t = t.first

abbrev pub other : Side
other t = t.second

abbrev pub entry : ℕ → ℕ → ℕ → List Pair → Entry
entry period phase deadline pairs = record { period = period; phase = phase; deadline = deadline; pairs = pairs }

-- the number of the refusal of an edit by a book, 0 where it is not refused
abbrev pub refusal : Side → Edit → Book → ℕ
refusal s (enter place period phase deadline t) b = enter_refusal b place (entry period phase deadline (s t))
refusal s (withdraw place) b = withdraw_refusal b place
refusal s (opening t) b = opening_refusal (s t)
refusal s (rounds n) b = rounds_refusal n

-- the book after an edit
abbrev pub edited : Side → Edit → Book → Book
edited s (enter place period phase deadline t) b = entered b place (entry period phase deadline (s t))
edited s (withdraw place) b = withdrawn b place
edited s (opening t) b = with_opening b (s t)
edited s (rounds n) b = with_rounds b n

-- the tables of an edit
abbrev pub tables_of : Edit → List Tables
tables_of (enter _ _ _ _ t) = t ∷ []
tables_of (withdraw _) = []
tables_of (opening t) = t ∷ []
tables_of (rounds _) = []

-- the two books, and the tables that they have taken so far, those replaced or withdrawn since among them
pub record Books : Type 0 where
  pub first : Book
  pub second : Book
  pub taken : List Tables

abbrev pub new_books : Books
new_books = record { first = new_book; second = new_book; taken = [] }

-- the books after a call
abbrev pub after : Call → Books → Books
after (edit e) b =
    record {
      first = edited one e b.first;
      second = edited other e b.second;
      taken = cond (refusal one e b.first == 0) (tables_of e) [] ++ b.taken;
    }
after issue b = b
after (ask _) b = b
after reopen b = b

-- both books take the tables of an edit, or both refuse them
abbrev pub Both : Edit → Books → List Tables → Type 0
Both e b [] = Unit {0}
Both e b (_ ∷ _) = (refusal one e b.first == 0) ≡ (refusal other e b.second == 0)

-- at each edit of a list
abbrev pub Together : Books → List Call → Type 0
Together b [] = Unit {0}
Together b (edit e ∷ cs) = Both e b (tables_of e) × Together (after (edit e) b) cs
Together b (issue ∷ cs) = Together b cs
Together b (ask _ ∷ cs) = Together b cs
Together b (reopen ∷ cs) = Together b cs
