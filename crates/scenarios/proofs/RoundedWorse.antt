-- Worse tables of equal total keep the rounded tails at least as large, in whole numbers. Assumes nothing.
use Rattle.std.proofs.Common.{◌≡◌, ℕ, suc, ◌-◌, ◌<◌, ◌≤◌, List, [], ◌∷◌, sym, subst, subst₂, mul-le-mul_left, arith}
use Rattle.theory.specs.Sums.{Below}
use Rattle.theory.specs.Walk.{Table, Leg, readings, Worse, Harder}
use Rattle.theory.specs.Rounded.{nat_ops, nat_least, total, up, moved, rounded_start, rounded_next, rounded, SoundLeg, Sound, Falling, KeptByCells}
use Rattle.theory.proofs.Pushed.{below_readings}
use Rattle.theory.proofs.Tails.{everywhere, never_better}
use Rattle.theory.proofs.Rounded.{nat_laws}
use Rattle.theory.proofs.Cells.{up_falls, by_cells}

-- leg by leg the same total
abbrev pub Level : List Leg → List Leg → Type 0
Level [] [] = Unit {0}
Level [] (k ∷ ks) = ⊥
Level (l ∷ ls) [] = ⊥
Level (l ∷ ls) (k ∷ ks) = (total l.table ≡ total k.table) × Level ls ks

-- a smaller number, divided by the same
up_less : (a b c d : ℕ) → 0 < c → c ≡ d → b ≤ a → up b d ≤ up a c
up_less a b c d some same h = subst (λ (n : ℕ). up b n ≤ up a c) same (up_falls b a c some h)

module _ (l k : Leg) (R R' : ℕ → ℕ) (sound : SoundLeg l) (sound' : SoundLeg k) (falling : Falling R) (falling' : Falling R') where
  moved_worse : Harder nat_ops nat_least (l ∷ []) (k ∷ []) → ((x : ℕ) → R' x ≤ R x) → (y : ℕ) → moved nat_ops 257 k R' y ≤ moved nat_ops 257 l R y
  moved_worse harder worse y =
      let kept : KeptByCells l R = by_cells.1 l R sound falling in
      let kept' : KeptByCells k R' = by_cells.1 k R' sound' falling' in
      subst₂ (λ (a b : ℕ). b ≤ a) (kept.steps y) (kept'.steps y)
      (never_better nat_laws (λ x. R x - R (suc x)) (λ x. R' x - R' (suc x)) (l ∷ []) (k ∷ []) (sound.stays, tt) harder
      (λ x lt. subst₂ (λ (a b : ℕ). b ≤ a) (sym (kept.tails x (omega arith))) (sym (kept'.tails x (omega arith))) (worse x))
      y)

pub rounded_worse : (ls ks : List Leg) (R R' : ℕ → ℕ) → Sound ls → Sound ks → Harder nat_ops nat_least ls ks → Level ls ks → Falling R → Falling R'
    → ((x : ℕ) → R' x ≤ R x) → (y : ℕ) → rounded ks R' y ≤ rounded ls R y
rounded_worse [] [] R R' sound sound' harder level falling falling' worse y = worse y
rounded_worse [] (k ∷ ks) R R' sound sound' harder level falling falling' worse y = absurd harder
rounded_worse (l ∷ ls) [] R R' sound sound' harder level falling falling' worse y = absurd harder
rounded_worse (l ∷ ls) (k ∷ ks) R R' sound sound' harder level falling falling' worse y =
    rounded_worse ls ks (rounded_next l R) (rounded_next k R') sound.1 sound'.1 harder.5 level.1
    (by_cells.1 l R sound.0 falling).falls (by_cells.1 k R' sound'.0 falling').falls
    (λ x. up_less _ _ _ _ sound.0.weighs level.0
    (moved_worse l k R R' sound.0 sound'.0 falling falling' (harder.0, harder.1, harder.2, harder.3, harder.4, tt) worse x))
    y

pub start_worse : (scale : ℕ) (opening lighter : Table) → Below 256 opening → Below 256 lighter → 0 < total opening → total opening ≡ total lighter
    → Worse nat_ops nat_least opening lighter → (y : ℕ) → rounded_start scale lighter y ≤ rounded_start scale opening y
start_worse scale opening lighter below below' some same worse y =
    up_less _ _ _ _ some same
    (mul-le-mul_left scale
    (everywhere nat_laws 256 (readings nat_ops opening) (readings nat_ops lighter)
    (below_readings nat_ops 256 opening below) (below_readings nat_ops 256 lighter below') worse y))
