use Rattle.theory.proofs.Tails.{never_later_told}
use Rattle.theory.proofs.theorems.never_later_told_stands.Goals as goal

pub returns : goal.returns
returns g c = never_later_told g.W.Weight.laws
