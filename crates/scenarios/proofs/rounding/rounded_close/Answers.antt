use Rattle.scenarios.proofs.RoundedClose.{rounded_close}
use Rattle.scenarios.proofs.rounding.rounded_close.Goals as goal

pub returns : goal.returns
returns c = rounded_close
