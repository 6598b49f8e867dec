-- The model's entries that the records of the code stand for.
use Rattle.std.specs.Prelude.{List, map, Some, None, Option}
use Rattle.board.specs.declared.tasks.Task.{Task}
use Rattle.board.specs.declared.places.Entries.{Entries}
use Rattle.board.specs.Tables.{table_pairs}
use Rattle.board.specs.Model.{Entry}

abbrev pub entry_of : Task → Entry
entry_of t = record { period = t.period; phase = t.phase; deadline = t.deadline; pairs = table_pairs t.table }

abbrev pub place_of : Option Task → Option Entry
place_of None = None
place_of (Some t) = Some (entry_of t)

-- what stands at each of the sixteen places
abbrev pub places : Entries → List (Option Entry)
places e = map place_of e.at
