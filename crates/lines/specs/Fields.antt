-- The fields of a line: the runs of bytes between its blanks.
use Rattle.std.specs.Prelude.{ℕ, Bool, cond, ◌||◌, List, [], ◌∷◌, ◌==◌}
use Rattle.lines.specs.declared.fields.Fields.{Fields}

-- a space, a tab or a carriage return
abbrev pub blank : ℕ → Bool
blank b = b == 32 || (b == 9 || b == 13)

-- a byte put before the first piece
abbrev pub joined : ℕ → List (List ℕ) → List (List ℕ)
joined b [] = (b ∷ []) ∷ []
joined b (p ∷ ps) = (b ∷ p) ∷ ps

-- what stands before, between and after the blanks
unfoldable pub pieces : List ℕ → List (List ℕ)
pieces [] = [] ∷ []
pieces (b ∷ bs) = cond (blank b) ([] ∷ pieces bs) (joined b (pieces bs))

-- the pieces that are not empty
unfoldable pub filled : List (List ℕ) → List (List ℕ)
filled [] = []
filled ([] ∷ ps) = filled ps
filled ((b ∷ bs) ∷ ps) = (b ∷ bs) ∷ filled ps

-- the fields of a line
unfoldable pub fields : List ℕ → List (List ℕ)
fields line = filled (pieces line)

-- the fields that are still to be read
abbrev pub left : Fields → List (List ℕ)
left f = fields f.rest.now
