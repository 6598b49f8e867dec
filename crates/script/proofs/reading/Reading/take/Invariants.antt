use Rattle.std.proofs.Common.{◌≡◌, drop, vec_items}
use Rattle.script.specs.Scripts.{progress, taken}
use Rattle.script.proofs.reading.Reading.take.Given as goal

-- what is left of the bytes leads to where all of them lead
abbrev pub invariant-loop-byte : goal.invariant-loop-byte
invariant-loop-byte l =
    taken (progress l.self l.book (vec_items l.out)) (drop l.byte-index l.bytes) ≡ taken (progress l.initial.self l.initial.book (vec_items l.initial.out)) l.bytes
