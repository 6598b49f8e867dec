use Rattle.std.proofs.Common.{◌≡◌, drop}
use Rattle.simulator.specs.Tables.{rising}
use Rattle.simulator.proofs.tables.rising.Given as goal

abbrev pub invariant-loop-pair : goal.invariant-loop-pair
invariant-loop-pair l = rising l.least (drop l.pair-index l.pairs) ≡ rising 0 l.pairs
