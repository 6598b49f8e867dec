use Rattle.std.proofs.Common.{rules, sym}
use Rattle.simulator.proofs.Pairs.{total_folds}
use Rattle.simulator.proofs.tables.total_of.Goals as goal

pub returns : goal.returns
returns c = rw (sym (total_folds c.args.pairs.now 4294967295)) (search rules)
