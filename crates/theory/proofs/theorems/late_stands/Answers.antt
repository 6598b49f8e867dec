use Rattle.theory.proofs.Tails.{late}
use Rattle.theory.proofs.theorems.late_stands.Goals as goal

pub returns : goal.returns
returns g c = late g.W.Weight.laws
