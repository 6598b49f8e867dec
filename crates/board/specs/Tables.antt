-- The list of pairs that a time table stands for.
use Rattle.std.specs.Prelude.{List, take}
use Rattle.analysis.specs.declared.pair.Pair.{Pair}
use Rattle.board.specs.declared.tables.TimeTable.{TimeTable}

abbrev pub table_pairs : TimeTable → List Pair
table_pairs t = take t.len t.held
