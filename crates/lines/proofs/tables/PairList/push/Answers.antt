use Rattle.lines.proofs.Held.{pushed}
use Rattle.lines.proofs.tables.PairList.push.Goals as goal

pub returns : goal.returns
returns c = pushed c.args.self.now c.args.pair c.push.new.self c.push.result c.push.ensures
