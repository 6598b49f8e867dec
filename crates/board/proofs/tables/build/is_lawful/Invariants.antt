use Rattle.std.proofs.Common.{◌≡◌, ◌+◌, ◌*◌, ◌≤◌, drop}
use Rattle.board.specs.Pairs.{rising, weighted, weights}
use Rattle.board.proofs.tables.build.is_lawful.Given as goal

-- what is left of the slice decides the same as the whole
abbrev pub invariant-loop-p : goal.invariant-loop-p
invariant-loop-p l =
    (rising 0 l.pairs ≡ rising l.low (drop l.p-index l.pairs))
    × (weighted l.pairs ≡ weighted (drop l.p-index l.pairs))
    × (l.sum + weights (drop l.p-index l.pairs) ≡ weights l.pairs)
    × (l.sum ≤ 65535 * l.p-index)
