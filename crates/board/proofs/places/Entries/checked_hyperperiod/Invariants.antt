use Rattle.std.proofs.Common.{◌≡◌, ℕ, ◌%◌, ◌≤◌, true, drop}
use Rattle.board.specs.Model.{divided}
use Rattle.board.specs.Places.{places}
use Rattle.board.proofs.places.Entries.checked_hyperperiod.Given as goal

abbrev pub invariant-loop-held : goal.invariant-loop-held
invariant-loop-held l =
    (1 ≤ l.h) × (l.h ≤ 4096)
    × ((k : ℕ) → divided (places l.self) k ≡ true → k % l.h ≡ 0)
    × ((k : ℕ) → k % l.h ≡ 0 → divided (drop l.held-index (places l.self)) k ≡ divided (places l.self) k)
