-- What holds of every table of a line.
use Rattle.std.specs.Prelude.{◌≡◌, List, take}
use Rattle.analysis.specs.declared.pair.Pair.{Pair}
use Rattle.lines.specs.Tables.{kept, listed}

-- a table holds the first seventeen pairs of its list
abbrev pub HoldsFirst : Type 0
HoldsFirst = (ps : List Pair) → listed (kept ps) ≡ take 17 ps
