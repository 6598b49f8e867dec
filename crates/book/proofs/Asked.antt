-- The job that a question asks for, where the book has it.
use Rattle.std.proofs.Common.{◌≡◌, ℕ, ◌+◌, ◌-◌, ◌*◌, ◌%◌, ◌≤◌, true, List, length, get_or, Some, None, Option, sym, ap, ◌∙◌, subst, arith}
use native.Mathlib.Nat.{mul-mod_left}
use Rattle.std.proofs.lemmas.Bool.{le-leb, eq-eqb, and_from}
use Rattle.board.specs.Model.{Entry}
use Rattle.board.specs.Jobs.{releases, release_of}
use Rattle.board.specs.Found.{Stands}
use Rattle.board.proofs.Standing.{held_low}

pub released_at : (e : Entry) (i : ℕ) → releases e (release_of e i) ≡ true
released_at e i =
    let d : e.phase + i * e.period - e.phase ≡ i * e.period = omega arith in
    and_from _ _ (le-leb e.phase (e.phase + i * e.period) (omega arith))
    (eq-eqb _ 0 (ap (λ n. n % e.period) d ∙ mul-mod_left i e.period))

-- job k, with a release r that is equal to its own, stands among the places
pub stands_in : (ps : List (Option Entry)) (place k r : ℕ) (e : Entry) → length ps ≡ 16 → get_or ps place None ≡ Some e → r ≡ release_of e k → r + e.deadline ≤ 32768 → 1 ≤ e.deadline → Stands ps (record { place = place; entry = e; release = r })
stands_in ps place k r e long is same soon pos =
    let low = held_low ps place e is in
    record { place_low = omega arith; at_place = is; released = subst (λ t. releases e t ≡ true) (sym same) (released_at e k); soon = soon; deadline_low = pos }
