use Rattle.script.proofs.Scripted.{reads_lines}
use Rattle.script.proofs.laws.script_reads_lines.Goals as goal

pub returns : goal.returns
returns c = reads_lines
