use Rattle.analysis.proofs.Whole.{adding_multiplies}
use Rattle.analysis.proofs.keeping.adding_multiplies_weight.Goals as goal

pub returns : goal.returns
returns g c = adding_multiplies g.W.Weight.laws
