use Rattle.std.proofs.Common.{rules}
use Rattle.lines.specs.Lines.{meaning}
use Rattle.lines.proofs.reading.read_line.Goals as goal

pub returns-then-is_remark : goal.returns-then-is_remark
unfolding meaning
returns-then-is_remark c = search rules

pub returns-in_default : goal.returns-in_default
unfolding meaning
returns-in_default c = search rules

pub returns-in-Some-read_call : goal.returns-in-Some-read_call
unfolding meaning
returns-in-Some-read_call c = search rules

pub returns-in-None : goal.returns-in-None
unfolding meaning
returns-in-None c = search rules
