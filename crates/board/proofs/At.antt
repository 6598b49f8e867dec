-- What a lawful list of places says of one of them.
use Rattle.std.proofs.Common.{◌≡◌, ℕ, zero, suc, ◌<◌, ◌≤◌, true, List, [], ◌∷◌, get_or, Some, None, Option, ap, ◌∙◌, arith}
use Rattle.std.proofs.lemmas.Bool.{and_parts}
use Rattle.std.proofs.lemmas.Bool.Decides.{nat_tests}
use Rattle.board.specs.Model.{Entry, entry_lawful, all_lawful}

pub not_none : {X : Type 0} (x : X) → Some x ≡ None → ⊥
not_none x e = let z : ◌≡◌ {A = ℕ} 0 1 = cc in omega arith

pub lawful_at : (ps : List (Option Entry)) (i : ℕ) (e : Entry) → all_lawful ps ≡ true → Some e ≡ get_or ps i None → entry_lawful e ≡ true
lawful_at [] i e ok is = absurd (not_none e is)
lawful_at (None ∷ ps) zero e ok is = absurd (not_none e is)
lawful_at (Some x ∷ ps) zero e ok is = let same : e ≡ x = cc in ap entry_lawful same ∙ (and_parts (entry_lawful x) (all_lawful ps) ok).0
lawful_at (None ∷ ps) (suc i) e ok is = lawful_at ps i e ok is
lawful_at (Some x ∷ ps) (suc i) e ok is = lawful_at ps i e (and_parts (entry_lawful x) (all_lawful ps) ok).1 is

-- what the code reads off a lawful entry
pub record Ranges (e : Entry) : Type 0 where
  pub period_low : 1 ≤ e.period
  pub period_high : e.period ≤ 4096
  pub phase_below : e.phase < e.period
  pub deadline_low : 1 ≤ e.deadline
  pub deadline_high : e.deadline ≤ 254

pub ranges : (e : Entry) → entry_lawful e ≡ true → Ranges e
ranges e ok =
    record {
      period_low = grind (arith, nat_tests);
      period_high = grind (arith, nat_tests);
      phase_below = grind (arith, nat_tests);
      deadline_low = grind (arith, nat_tests);
      deadline_high = grind (arith, nat_tests);
    }

pub ranges_at : (ps : List (Option Entry)) (i : ℕ) (e : Entry) → all_lawful ps ≡ true → Some e ≡ get_or ps i None → Ranges e
ranges_at ps i e ok is = ranges e (lawful_at ps i e ok is)
