-- The law holds along every run of calls, since every call keeps the two books alike.
use Rattle.std.proofs.Common.{List, [], ◌∷◌, sym, subst₂}
use Rattle.theory.specs.Semiring.{Ops, Laws}
use Rattle.board.specs.Model.{Book}
use Rattle.guarantees.specs.Runs.{Edit, Call, edit, issue, ask, reopen, Books, new_books, tables_of, after, Both, Together}
use Rattle.guarantees.specs.Law.{Holds, HoldsAlong, Law}
use Rattle.guarantees.proofs.Twins.{books}
use Rattle.guarantees.proofs.Next.{Kept, next, new_kept}
use Rattle.guarantees.proofs.Answers.{holds}

module _ {K : Type 0} {ops : Ops K} {least : K → K → Type 0} (laws : Laws ops least) where
  -- what holds of two books alike holds of kept ones
  as_kept : (P : Books → Type 0) (b : Books) (kept : Kept ops least b) → P (books kept.twin b.taken) → P b
  as_kept P b kept = subst₂ (λ (x y : Book). P (record { first = x; second = y; taken = b.taken })) (sym kept.one_is) (sym kept.other_is)

  keeps : (e : Edit) (b : Books) → Kept ops least b → Both e b (tables_of e) → Kept ops least (after (edit e) b)
  keeps e b kept = as_kept (λ a. Both e a (tables_of e) → Kept ops least (after (edit e) a)) b kept (next ops least kept.twin b.taken kept.good e)

  along : (cs : List Call) (b : Books) → Kept ops least b → Together b cs → HoldsAlong ops least b cs
  along [] b kept together = tt
  along (edit e ∷ cs) b kept together = along cs (after (edit e) b) (keeps e b kept together.0) together.1
  along (issue ∷ cs) b kept together = along cs b kept together
  along (ask q ∷ cs) b kept together = (as_kept (Holds ops least q) b kept (holds laws kept.twin b.taken kept.good q), along cs b kept together)
  along (reopen ∷ cs) b kept together = along cs b kept together

  pub law : Law ops least
  law calls allowed together = along calls new_books (new_kept laws) together
