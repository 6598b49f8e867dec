use Rattle.std.proofs.Common.{◌≡◌, ℕ, ◌<◌, ◌≤◌, true, get_or, None}
use Rattle.board.specs.Places.{places}
use Rattle.board.specs.Found.{quiet}
use Rattle.board.proofs.places.Entries.next_release.Given as goal

abbrev pub invariant-loop-held : goal.invariant-loop-held
invariant-loop-held l =
    (l.from ≤ l.next) × (l.next ≤ l.end)
    × ((p : ℕ) → p < l.held-index → (k : ℕ) → l.from ≤ k → k < l.next → quiet (get_or (places l.self) p None) k ≡ true)
