use Rattle.std.proofs.Common.{◌≡◌, take, drop, None}
use Rattle.book.specs.Drafts.{draft_book}
use Rattle.planfile.specs.Bodies.{wrong_in, bodies_entered}
use Rattle.planfile.proofs.bodies.Bodies.enter.Given as goal

-- the bodies that are left decide, and those before have no wrong pair
abbrev pub invariant-loop-i : goal.invariant-loop-i
invariant-loop-i l =
    (bodies_entered l.self.fields.file.now (draft_book l.draft) (drop l.i l.self.entries.now) ≡ bodies_entered l.self.fields.file.now (draft_book l.initial.draft) l.self.entries.now)
    × (wrong_in l.self.fields.file.now (take l.i l.self.entries.now) ≡ None)
