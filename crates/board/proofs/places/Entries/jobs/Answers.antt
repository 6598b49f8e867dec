use Rattle.std.proofs.Common.{◌/◌, ◌<◌, ◌≤◌, Some, None, length, div-le_self, arith}
use Rattle.std.proofs.lemmas.List.{length-map}
use Rattle.board.specs.Places.{places, entry_of}
use Rattle.board.proofs.Records.{entries_at}
use Rattle.board.proofs.Steps.{held, bare}
use Rattle.board.proofs.places.Entries.jobs.Goals as goal
use Rattle.board.proofs.places.Entries.jobs.Goals.{in-Some, in_default}

pub loop-held-preserved : goal.loop-held-preserved
loop-held-preserved c =
    let e = c.args.self.now in
    let ps = places e in
    let i = c.loop-held.held-index in
    let lt : i < length ps = simp length-map (omega arith) in
    elim c.match-held.branch [
      | in-Some w ↦
          let k = held ps i c.args.h (entry_of w.in-Some.task) lt (entries_at e i c.held-item.result (Some w.in-Some.task) (omega arith) w.in-Some.is) in
          let d : c.args.h / w.in-Some.task.period ≤ c.args.h = div-le_self _ _ in
          (omega (arith, w.n-is, k.jobs_is), omega (arith, w.n-is))
      | in_default w ↦
          let k = bare ps i c.args.h lt (entries_at e i c.held-item.result None (omega arith) w.in_default.is) in
          (omega (arith, w.n-is, k.jobs_is), omega (arith, w.n-is))
    ]
