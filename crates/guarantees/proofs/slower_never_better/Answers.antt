use Rattle.guarantees.proofs.Along.{law}
use Rattle.guarantees.proofs.slower_never_better.Goals as goal

pub returns : goal.returns
returns g c = law g.W.Weight.laws
