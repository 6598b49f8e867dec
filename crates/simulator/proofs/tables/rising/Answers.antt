use Rattle.std.proofs.Common.{sym, arith}
use Rattle.simulator.proofs.Pairs.{rising_on, rising_stops, rising_ends}
use Rattle.simulator.proofs.tables.rising.Goals as goal

pub returns-then-not-fits : goal.returns-then-not-fits
returns-then-not-fits c =
    rising_stops
    c.loop-pair.least
    c.loop-pair.pair-index
    c.args.pairs.now
    _
    (omega arith)
    (sym c.if-not-fits.ensures.answer)
    c.loop-pair.invariant

pub loop-pair-preserved : goal.loop-pair-preserved
loop-pair-preserved c =
    rising_on
    c.loop-pair.least
    c.loop-pair.pair-index
    c.args.pairs.now
    _
    (omega arith)
    (sym c.if-not-fits.ensures.answer)
    c.loop-pair.invariant

pub returns : goal.returns
returns c =
    rising_ends
    c.loop-pair.least
    c.loop-pair.pair-index
    c.args.pairs.now
    _
    (omega arith)
    c.loop-pair.invariant
