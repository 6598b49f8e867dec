use Rattle.std.proofs.Common.{◌≡◌, List, ◌++◌, length, take, sym, refl}
use lib.Seq.{take-append_seam}
use Rattle.simulator.specs.declared.tables.SimPair.{SimPair}
use Rattle.simulator.proofs.tables.SimTable.new.Goals as goal

-- what was copied to the front is what is read back from there
front : (pairs copied rest : List SimPair) → copied ≡ pairs → take (length pairs) (copied ++ rest) ≡ pairs
front pairs copied rest same = rw same (take-append_seam pairs rest)

pub returns : goal.returns
returns c =
    (sym c.if-not-lawful.ensures, (refl, front _ _ _ c.copy_from_slice.ensures.after))
