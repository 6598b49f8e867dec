use Rattle.std.proofs.Common.{[]}
use Rattle.script.proofs.Buffered.{gather_all, told_gather}
use Rattle.script.proofs.laws.buffer_tells_meaning.Goals as goal

pub returns : goal.returns
returns c = record { gathers = λ line. gather_all [] line; tells = told_gather }
