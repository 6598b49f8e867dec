use Rattle.lines.proofs.Held.{listed_kept}
use Rattle.lines.proofs.laws.table_holds_first_pairs.Goals as goal

pub returns : goal.returns
returns c = listed_kept
