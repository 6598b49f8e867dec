use Rattle.std.proofs.Common.{List, ℕ}
use Rattle.std.proofs.lemmas.Iterator.{YieldsList}
use Rattle.lines.proofs.Ranked.{RankedOn}
use Rattle.lines.proofs.rules.read_ranks.Given as goal

-- the iterator gives the parts that are left
abbrev pub invariant-loop-piece : goal.invariant-loop-piece
invariant-loop-piece l =
    (left : List (List ℕ))
    × YieldsList goal.iterator-loop-piece.next_gives (λ x. x.now) l.piece-iterator left
    × RankedOn l.list l.ranks.items left
