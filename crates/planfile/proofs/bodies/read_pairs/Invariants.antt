use Rattle.std.proofs.Common.{◌≡◌, ◌+◌, ◌*◌, ◌≤◌, length, take}
use Rattle.planfile.specs.Bodies.{pairs}
use Rattle.planfile.proofs.bodies.read_pairs.Given as goal

abbrev pub invariant-loop-i : goal.invariant-loop-i
invariant-loop-i l =
    (l.held.items ≡ take l.i (pairs l.fields.file.now l.at l.count))
    × (length l.held.items ≡ l.i)
    × (l.at + 3 * l.i ≤ length l.fields.file.now)
