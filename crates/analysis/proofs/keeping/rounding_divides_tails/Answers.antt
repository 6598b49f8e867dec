use Rattle.analysis.proofs.Kept.{rounding_divides}
use Rattle.analysis.proofs.keeping.rounding_divides_tails.Goals as goal

pub returns : goal.returns
returns c = rounding_divides
