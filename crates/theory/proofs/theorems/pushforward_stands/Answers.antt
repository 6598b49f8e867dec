use Rattle.theory.proofs.Pushed.{pushforward}
use Rattle.theory.proofs.theorems.pushforward_stands.Goals as goal

pub returns : goal.returns
returns g c = pushforward g.W.Weight.laws
