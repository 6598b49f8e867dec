use Rattle.std.proofs.Common.{◌∙◌, ap}
use Rattle.lines.proofs.Held.{none_kept, held_in}
use Rattle.lines.proofs.tables.PairList.new.Goals as goal

pub returns : goal.returns
returns c = ap held_in c.new.ensures ∙ none_kept
