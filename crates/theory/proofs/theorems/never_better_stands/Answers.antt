use Rattle.theory.proofs.Tails.{never_better}
use Rattle.theory.proofs.theorems.never_better_stands.Goals as goal

pub returns : goal.returns
returns g c = never_better g.W.Weight.laws
