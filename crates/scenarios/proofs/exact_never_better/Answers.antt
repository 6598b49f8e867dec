use Rattle.scenarios.proofs.Exact.{exact_never_better}
use Rattle.scenarios.proofs.exact_never_better.Goals as goal

pub returns : goal.returns
returns g c = exact_never_better g.W.Weight.laws
