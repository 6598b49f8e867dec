use Rattle.analysis.proofs.Whole.{passing_keeps}
use Rattle.analysis.proofs.keeping.passing_keeps_weight.Goals as goal

pub returns : goal.returns
returns g c = passing_keeps g.W.Weight.laws
