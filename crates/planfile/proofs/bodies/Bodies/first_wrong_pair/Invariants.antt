use Rattle.std.proofs.Common.{◌≡◌, ◌+◌, ◌*◌, ◌≤◌, true, take, drop, None}
use Rattle.planfile.specs.Bodies.{pairs, first_wrong, wrong_in, within}
use Rattle.planfile.proofs.bodies.Bodies.first_wrong_pair.Given as goal

-- no pair so far is wrong: the pairs that are left decide
abbrev pub invariant-loop-i : goal.invariant-loop-i
invariant-loop-i l =
    (l.found ≡ None)
    × (first_wrong (drop l.i (pairs l.self.fields.file.now l.first l.named)) l.low (l.first + 3 * l.i) ≡ first_wrong (pairs l.self.fields.file.now l.first l.named) 0 l.first)
    × (l.low ≤ 256)

-- no body so far has a wrong pair: the bodies that are left decide
abbrev pub invariant-bodies : goal.invariant-bodies
invariant-bodies l =
    (l.found ≡ None)
    × (wrong_in l.self.fields.file.now (drop l.entry-index l.entries) ≡ wrong_in l.self.fields.file.now (take l.count l.self.entries.now))
    × (within l.self.fields.file.now (drop l.entry-index l.entries) ≡ true)
