use Rattle.theory.proofs.Rounded.{rounded_stands}
use Rattle.theory.proofs.theorems.rounded_stands.Goals as goal

pub returns : goal.returns
returns c = rounded_stands
