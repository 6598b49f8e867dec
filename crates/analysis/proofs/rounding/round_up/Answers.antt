use Rattle.std.proofs.Common.{sym, ◌∙◌, arith}
use Rattle.analysis.proofs.Quotients.{up_by_nought, up_ceil}
use Rattle.analysis.proofs.rounding.round_up.Goals as goal

pub returns-then-by-eq0 : goal.returns-then-by-eq0
returns-then-by-eq0 c = sym (up_by_nought c.args.number c.args.by (omega arith))

pub returns-else-by-eq0 : goal.returns-else-by-eq0
returns-else-by-eq0 c = c.div_ceil.ensures ∙ sym (up_ceil c.args.number c.args.by (omega arith))
