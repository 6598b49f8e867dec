use Rattle.std.proofs.Common.{arith}
use Rattle.board.specs.Places.{entry_of}
use Rattle.board.proofs.At.{ranges}
use Rattle.board.proofs.Releases.{quiet_until}
use Rattle.board.proofs.tasks.Task.next_release.Goals as goal

pub returns-else-since-eq0 : goal.returns-else-since-eq0
returns-else-since-eq0 c =
    let e = entry_of c.args.self.now in
    let pos = (ranges e c.args.self.now.lawful).period_low in
    record {
      low = omega arith;
      none = λ k le lt. quiet_until e c.args.from k pos c.if-from-phase.false c.if-since-eq0.false le lt;
    }
