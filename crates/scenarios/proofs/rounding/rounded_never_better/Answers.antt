use Rattle.scenarios.proofs.RoundedClose.{rounded_never_better}
use Rattle.scenarios.proofs.rounding.rounded_never_better.Goals as goal

pub returns : goal.returns
returns c = rounded_never_better
