use Rattle.std.proofs.Common.{◌≡◌, ◌+◌, ◌*◌, [], length, take, drop}
use Rattle.planfile.specs.Contents.{contents, contents_end, entries_fault, last_end}
use Rattle.planfile.proofs.contents.Contents.read.Given as goal

-- the entries that are held, where the last of them ended, and what the others decide
abbrev pub invariant-loop-i : goal.invariant-loop-i
invariant-loop-i l =
    (l.read.entries.items ≡ take l.i (contents l.file))
    × (length l.read.entries.items ≡ l.i)
    × (last_end l.read.end (drop l.i (contents l.file)) ≡ last_end (contents_end l.file) (contents l.file))
    × (entries_fault l.file (1 + 5 * l.i) l.read.end l.read.entries.items (drop l.i (contents l.file)) ≡ entries_fault l.file 1 (contents_end l.file) [] (contents l.file))
