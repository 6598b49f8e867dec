use Rattle.theory.proofs.Moves.{moves_fair}
use Rattle.theory.proofs.theorems.moves_fair_stands.Goals as goal

pub returns : goal.returns
returns c = moves_fair
