-- The exact sheet of a question is the sheet of its walk, leg by leg. Assumes nothing.
use Rattle.std.proofs.Common.{◌≡◌, ℕ, ◌+◌, ◌-◌, ◌<◌, ◌≤◌, List, [], ◌∷◌, ◌++◌, sym, refl, ap, ◌∙◌, arith}
use Rattle.theory.specs.Semiring.{Ops, Laws}
use Rattle.theory.specs.Sums.{cell, Below}
use Rattle.theory.specs.Sums.{tail as spread_tail}
use Rattle.theory.specs.Walk.{Leg, readings, stepped, next, run, sheet, rest, Stays}
use Rattle.theory.proofs.Moves.{moves_fair}
use Rattle.analysis.specs.Cells.{tail}
use Rattle.scenarios.specs.Questions.{Counted, Question, upto, drawn_from}
use Rattle.scenarios.specs.Walks.{unsettled, walked_upto, walked_later, walked, exact_sheet, legs_upto, legs_later, legs}
use Rattle.scenarios.specs.Theorems.{AllBefore, Sound}
use Rattle.scenarios.proofs.Bridge.{tail_is_rest}
use Rattle.scenarios.proofs.BridgeAdding.{added_from_is_next}
use Rattle.scenarios.proofs.BridgePassing.{cells_same, below_small, passed_added_is_next, opening_is_cell}

-- the cells up to 256 are equal
abbrev pub Same : {K : Type 0} → (ℕ → K) → (ℕ → K) → Type 0
Same f s = (v : ℕ) → v < 257 → f v ≡ s v

-- the legs keep states below 257
stays_append : (ls ks : List Leg) → Stays 257 ls → Stays 257 ks → Stays 257 (ls ++ ks)
stays_append [] ks h k = k
stays_append (l ∷ ls) ks h k = (h.0, stays_append ls ks h.1 k)

stays_upto : (last : ℕ) (ks : List Counted) → Stays 257 (legs_upto last ks)
stays_upto last [] = tt
stays_upto last (k ∷ ks) = ((moves_fair.0 (k.release - last)).stays, stays_upto k.release ks)

stays_later : (a : ℕ) (ks : List Counted) → Stays 257 (legs_later a ks)
stays_later a [] = tt
stays_later a (k ∷ ks) = ((moves_fair.1 (k.release - a)).stays, stays_later a ks)

pub legs_stay : (q : Question) → Stays 257 (legs q)
unfolding legs
legs_stay q = stays_append (legs_upto 0 (upto q)) (legs_later q.job.release q.later) (stays_upto 0 (upto q)) (stays_later q.job.release q.later)

pub opening_below : (q : Question) → Sound q → Below 256 (drawn_from q.opening)
opening_below q sound = below_small q.opening sound.opening_fits.small

pub run_append : {K : Type 0} (ops : Ops K) (ls ks : List Leg) (s : ℕ → K) → run ops 257 (ls ++ ks) s ≡ run ops 257 ks (run ops 257 ls s)
run_append ops [] ks s = refl
run_append ops (l ∷ ls) ks s = run_append ops ls ks (next ops 257 l s)

module _ {K : Type 0} {ops : Ops K} {least : K → K → Type 0} (laws : Laws ops least) where
  pub next_same : (l : Leg) (f s : ℕ → K) → Same f s → (v : ℕ) → next ops 257 l f v ≡ next ops 257 l s v
  next_same l f s e v = ap (λ C. cell ops (stepped ops l.move C (readings ops l.table)) v) (cells_same 257 f s e)

  upto_walk : (last : ℕ) (f s : ℕ → K) (ks : List Counted) → Same f s → Same (walked_upto ops unsettled last f ks) (run ops 257 (legs_upto last ks) s)
  upto_walk last f s [] e = e
  upto_walk last f s (k ∷ ks) e =
      upto_walk k.release _ _ ks (λ v h. passed_added_is_next laws (k.release - last) f k.pairs v h ∙ next_same _ f s e v)

  later_walk : (a D : ℕ) (ks : List Counted) → D ≤ 254 → AllBefore (a + D) ks → (f s : ℕ → K) → Same f s
      → Same (walked_later ops unsettled a f ks) (run ops 257 (legs_later a ks) s)
  later_walk a D [] small reach f s e = e
  later_walk a D (k ∷ ks) small reach f s e =
      later_walk a D ks small reach.1 _ _
      (λ v h. added_from_is_next laws (k.release - a) f k.pairs v (omega (arith, reach.0)) h ∙ next_same _ f s e v)

  pub sheet_is_walk : (q : Question) → Sound q → Same (exact_sheet ops q) (sheet ops 257 (drawn_from q.opening) (legs q))
  unfolding walked legs
  sheet_is_walk q sound v h =
      later_walk q.job.release q.deadline q.later sound.deadline_small sound.in_reach _ _
      (upto_walk 0 _ _ (upto q) (λ w l. opening_is_cell laws q.opening w sound.opening_fits.small l)) v h
      ∙ sym (ap (λ (u : ℕ → K). u v) (run_append ops (legs_upto 0 (upto q)) (legs_later q.job.release q.later) (λ w. cell ops (readings ops (drawn_from q.opening)) w)))

  pub tail_is_walk : (q : Question) → Sound q → (y : ℕ) → tail ops (exact_sheet ops q) y ≡ rest ops 257 (sheet ops 257 (drawn_from q.opening) (legs q)) y
  tail_is_walk q sound y =
      tail_is_rest laws (exact_sheet ops q) y
      ∙ ap (λ C. spread_tail ops C y) (cells_same 257 (exact_sheet ops q) (sheet ops 257 (drawn_from q.opening) (legs q)) (sheet_is_walk q sound))
