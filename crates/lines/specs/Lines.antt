-- What a line means.
use Rattle.std.specs.Prelude.{ℕ, Bool, false, cond, List, [], ◌∷◌, Some, None, Option, ◌==◌}
use Rattle.lines.specs.declared.calls.Call.{Call}
use Rattle.lines.specs.declared.reading.Line.{Line}
use Rattle.lines.specs.declared.reading.Line.TheVariants.{Passed, Call as Asked, Unreadable}
use Rattle.lines.specs.Fields.{fields}
use Rattle.lines.specs.Calls.{call}

-- the first byte is #
abbrev pub remark : List ℕ → Bool
remark [] = false
remark (b ∷ bs) = b == 35

-- a line that reads as a call, or does not
abbrev pub called : Option Call → Line
called (Some c) = Asked c
called None = Unreadable

-- a line by its fields: none, or a first word and what follows it
abbrev pub by_fields : List (List ℕ) → Line
by_fields [] = Passed
by_fields (w ∷ fs) = called (call w fs)

-- a remark is passed over, and so is a line with no field
unfoldable pub meaning : List ℕ → Line
meaning line = cond (remark line) Passed (by_fields (fields line))
