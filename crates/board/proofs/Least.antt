-- The search for the hyperperiod finds the least number.
use Rattle.std.proofs.Common.{◌≡◌, ℕ, zero, suc, ◌+◌, ◌<◌, ◌≤◌, true, false, List, Option, ap, ◌∙◌, ⊎_elim, arith}
use Rattle.std.proofs.lemmas.Bool.{cases_Bool, cases_eq}
use Rattle.std.proofs.lemmas.Bool.Decides.{nat_tests}
use Rattle.board.specs.Model.{Entry, divided, first_divided, hyperperiod, book_lawful}
use Rattle.board.specs.Model.{Least}
use Rattle.board.proofs.Steps.{first_ge}

-- before the number that is found none passes
pub none_before : (ps : List (Option Entry)) (n h k : ℕ) → h ≤ k → k < first_divided ps n h → divided ps k ≡ false
unfolding first_divided
none_before ps zero h k le lt = absurd (omega arith)
none_before ps (suc n) h k le lt =
    ⊎_elim
    (λ (e : divided ps h ≡ true). let l : k < h = rw e at lt in absurd (omega arith))
    (λ (e : divided ps h ≡ false).
    let l : k < first_divided ps n (h + 1) = rw e at lt in
    ⊎_elim (λ (q : k ≡ h). ap (divided ps) q ∙ e) (λ (q : k ≡ h → ⊥). none_before ps n (h + 1) k (omega arith) l) (cases_eq k h))
    (cases_Bool (divided ps h))

-- what is found below the end passes
pub found_passes : (ps : List (Option Entry)) (n h : ℕ) → first_divided ps n h < h + n → divided ps (first_divided ps n h) ≡ true
unfolding first_divided
found_passes ps zero h lt = absurd (omega arith)
found_passes ps (suc n) h lt =
    ⊎_elim
    (λ (e : divided ps h ≡ true). rw e e)
    (λ (e : divided ps h ≡ false).
    let l : first_divided ps n (h + 1) < h + suc n = rw e at lt in
    rw e (found_passes ps n (h + 1) (omega arith)))
    (cases_Bool (divided ps h))

pub hyper_least : (ps : List (Option Entry)) (r : ℕ) → book_lawful ps r ≡ true → Least ps (hyperperiod ps)
unfolding hyperperiod
hyper_least ps r e =
    let h = first_divided ps 4096 1 in
    let b : h ≤ 4096 = grind (arith, nat_tests) in
    record {
      positive = first_ge ps 4096 1;
      small = b;
      common = found_passes ps 4096 1 (omega arith);
      least = λ k l m. none_before ps 4096 1 k l m;
    }
