use Rattle.std.proofs.Common.{codes, refl, arith}
use Rattle.std.proofs.lemmas.Slice.Eq.{text_from_reads}
use Rattle.lines.proofs.rules.KindFromField.from_field.Goals as goal

pub returns-in-counts : goal.returns-in-counts
returns-in-counts c = rw (text_from_reads c.args.field.now (codes "counts") (omega arith) (grind arith)) refl

pub returns-in-possible : goal.returns-in-possible
returns-in-possible c = rw (text_from_reads c.args.field.now (codes "possible") (omega arith) (grind arith)) refl

pub returns-in-heaviest : goal.returns-in-heaviest
returns-in-heaviest c = rw (text_from_reads c.args.field.now (codes "heaviest") (omega arith) (grind arith)) refl
