-- The fields of a plan file, a list of bytes: one byte, and two bytes with the high one first.
use Rattle.std.specs.Prelude.{ℕ, ◌+◌, ◌*◌, List, slice_index}
use Rattle.analysis.specs.declared.pair.Pair.{Pair}

abbrev pub byte : List ℕ → ℕ → ℕ
byte f at = slice_index f at

abbrev pub word : List ℕ → ℕ → ℕ
word f at = byte f at * 256 + byte f (at + 1)

-- a time, then its weight
abbrev pub pair : List ℕ → ℕ → Pair
pair f at = record { time = byte f at; weight = word f (at + 1) }
