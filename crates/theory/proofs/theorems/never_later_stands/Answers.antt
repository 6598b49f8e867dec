use Rattle.theory.proofs.Tails.{never_later}
use Rattle.theory.proofs.theorems.never_later_stands.Goals as goal

pub returns : goal.returns
returns g c = never_later g.W.Weight.laws
