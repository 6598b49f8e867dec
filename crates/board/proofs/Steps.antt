-- One step of a loop over the places, and of the search for the hyperperiod.
use Rattle.std.proofs.Common.{◌≡◌, ℕ, zero, suc, ◌+◌, ◌/◌, ◌%◌, ◌<◌, ◌≤◌, true, false, cond, ◌&&◌, eqb, List, ◌∷◌, length, get_or, drop, Some, None, Option, sym, ap, ◌∙◌, arith}
use Rattle.std.proofs.lemmas.List.{at_drop_more}
use Rattle.board.specs.Model.{Entry, divided, jobs, first_divided}

pub at_read : {X Y : Type 0} (F : List X → Y) (xs : List X) (i : ℕ) (d v : X) → i < length xs → v ≡ get_or xs i d → F (drop i xs) ≡ F (v ∷ drop (i + 1) xs)
at_read F xs i d v h e = at_drop_more F xs i d h ∙ ap (λ w. F (w ∷ drop (i + 1) xs)) (sym e)

-- what a place that holds an entry adds
pub record Held (ps : List (Option Entry)) (i h : ℕ) (e : Entry) : Type 0 where
  pub divided_is : divided (drop i ps) h ≡ (eqb (h % e.period) 0 && divided (drop (i + 1) ps) h)
  pub jobs_is : jobs (drop i ps) h ≡ h / e.period + jobs (drop (i + 1) ps) h

pub held : (ps : List (Option Entry)) (i h : ℕ) (e : Entry) → i < length ps → Some e ≡ get_or ps i None → Held ps i h e
held ps i h e lt is =
    record {
      divided_is = at_read (λ xs. divided xs h) ps i None (Some e) lt is;
      jobs_is = at_read (λ xs. jobs xs h) ps i None (Some e) lt is;
    }

-- what an empty place adds
pub record Bare (ps : List (Option Entry)) (i h : ℕ) : Type 0 where
  pub divided_is : divided (drop i ps) h ≡ divided (drop (i + 1) ps) h
  pub jobs_is : jobs (drop i ps) h ≡ jobs (drop (i + 1) ps) h

pub bare : (ps : List (Option Entry)) (i h : ℕ) → i < length ps → None ≡ get_or ps i None → Bare ps i h
bare ps i h lt is =
    record {
      divided_is = at_read (λ xs. divided xs h) ps i None None lt is;
      jobs_is = at_read (λ xs. jobs xs h) ps i None None lt is;
    }

-- the search for the hyperperiod
pub found_here : (ps : List (Option Entry)) (n h : ℕ) → 0 < n → divided ps h ≡ true → first_divided ps n h ≡ h
unfolding first_divided
found_here ps zero h lt e = absurd (omega arith)
found_here ps (suc n) h lt e = rw e

-- the search gives no less than where it starts
pub first_ge : (ps : List (Option Entry)) (n h : ℕ) → h ≤ first_divided ps n h
unfolding first_divided
first_ge ps zero h = omega arith
first_ge ps (suc n) h =
    let r = first_ge ps n (h + 1) in
    elim (divided ps h) as (λ b. h ≤ cond b h (first_divided ps n (h + 1))) [ true ↦ omega arith | false ↦ omega arith ]
