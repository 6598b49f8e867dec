use Rattle.scenarios.proofs.Exact.{exact_answers}
use Rattle.scenarios.proofs.exact_answers.Goals as goal

pub returns : goal.returns
returns g c = exact_answers g.W.Weight.laws
