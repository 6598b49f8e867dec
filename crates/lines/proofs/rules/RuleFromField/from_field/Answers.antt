use Rattle.std.proofs.Common.{codes, refl, arith}
use Rattle.std.proofs.lemmas.Slice.Eq.{text_from_reads}
use Rattle.lines.proofs.rules.RuleFromField.from_field.Goals as goal

pub returns-in-period : goal.returns-in-period
returns-in-period c = rw (text_from_reads c.args.field.now (codes "period") (omega arith) (grind arith)) refl

pub returns-in-deadline : goal.returns-in-deadline
returns-in-deadline c = rw (text_from_reads c.args.field.now (codes "deadline") (omega arith) (grind arith)) refl
