use Rattle.std.proofs.Common.{◌≡◌, ◌+◌, ◌*◌, ◌≤◌, drop}
use Rattle.board.specs.Model.{jobs}
use Rattle.board.specs.Places.{places}
use Rattle.board.proofs.places.Entries.jobs.Given as goal

abbrev pub invariant-loop-held : goal.invariant-loop-held
invariant-loop-held l =
    (l.n + jobs (drop l.held-index (places l.self)) l.h ≡ jobs (places l.self) l.h)
    × (l.n ≤ 65535 * l.held-index)
