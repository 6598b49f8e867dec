-- Tails of a sheet of cells, over the whole numbers. Assumes nothing.
use Rattle.std.proofs.Common.{◌≡◌, ℕ, zero, suc, ◌+◌, ◌-◌, ◌*◌, ◌<◌, ◌≤◌, Bool, true, false, cond, leb, List, ◌∷◌, sym, refl, ap, ◌∙◌, subst₂, inl, inr, mul_comm, mul-le-mul_left, mul-zero, le-div_iff_mul-le, mul-suc, arith}
use Rattle.std.proofs.lemmas.Bool.{cases_lt, le-leb, lt-leb, leb-true, both_ways}
use Rattle.std.proofs.lemmas.Bool.Decides.{nat_tests}
use Rattle.std.specs.List.{filter}
use Rattle.theory.specs.Sums.{over, tail, down, cells, first}
use Rattle.theory.specs.Walk.{Leg, readings, rest}
use Rattle.theory.specs.Rounded.{nat_ops, total, up, moved, SoundLeg, ByCells}
use Rattle.theory.proofs.Sums.{over_same, over_nought, over_least}
use Rattle.theory.proofs.Pushed.{below_cells, below_readings, tail_mean}
use Rattle.theory.proofs.Tails.{first_le, tail_beyond, tail_by_times, rest_next}
use Rattle.theory.proofs.Rounded.{nat_laws, up_little}

first_none : (p : ℕ → Bool) (n : ℕ) → ((x : ℕ) → x < n → p x ≡ false) → first p n ≡ n
unfolding first
first_none p zero h = refl
first_none p (suc n) h = ap (λ b. cond b (first p n) (suc n)) (h n (omega arith))

first_anti : (p q : ℕ → Bool) (n : ℕ) → ((x : ℕ) → q x ≡ true → p x ≡ true) → first p n ≤ first q n
unfolding first
first_anti p q zero h = omega arith
first_anti p q (suc n) h = by (p n) (q n) (h n) (first_le p n) (first_anti p q n h)
  where
    by : (a b : Bool) → (b ≡ true → a ≡ true) → first p n ≤ n → first p n ≤ first q n → cond a (first p n) (suc n) ≤ cond b (first q n) (suc n)
    by true true e le ih = ih
    by true false e le ih = omega arith
    by false true e le ih = absurd (both_ways false refl (e refl))
    by false false e le ih = omega arith

falls : (R : ℕ → ℕ) → ((x : ℕ) → R (suc x) ≤ R x) → (x y : ℕ) → x ≤ y → R y ≤ R x
falls R down' x zero h = let z : x ≡ 0 = omega arith in rw z (omega arith)
falls R down' x (suc y) h = elim (cases_lt x (suc y)) [
  | inl lt ↦ omega (arith, down' y, falls R down' x y (omega arith))
  | inr le ↦ (let z : x ≡ suc y = omega arith in rw z (omega arith))
]

up_below : (u b d : ℕ) → 0 < d → u * d < b + d → u ≤ up b d
unfolding up
up_below u b d weighs h = (le-div_iff_mul-le weighs).1 (omega arith)

pub up_falls : (a b d : ℕ) → 0 < d → a ≤ b → up a d ≤ up b d
up_falls a b d weighs h = up_below (up a d) b d weighs (omega (arith, up_little a d weighs))

pub up_zero : (d : ℕ) → 0 < d → up 0 d ≡ 0
up_zero d h = by (up 0 d) (up_little 0 d h)
  where
    by : (u : ℕ) → u * d < 0 + d → u ≡ 0
    by zero k = refl
    by (suc u) k = absurd (omega (arith, mul_comm (suc u) d, mul-suc d u))

tail_falls : (S : List (ℕ × ℕ)) (y : ℕ) → tail nat_ops S (suc y) ≤ tail nat_ops S y
tail_falls S y =
    subst₂ (λ (a b : ℕ). a ≤ b) (sym (tail_mean nat_laws S (suc y))) (sym (tail_mean nat_laws S y))
    (over_least nat_laws S _ _ (λ p. mul-le-mul_left p.1 (by p.0)))
  where
    by : (x : ℕ) → cond (leb (suc y) x) 1 0 ≤ cond (leb y x) 1 0
    by x = grind (arith, nat_tests)

module _ (R : ℕ → ℕ) (down' : (x : ℕ) → R (suc x) ≤ R x) where
  tail_cells : (n y : ℕ) → y ≤ n → tail nat_ops (cells n (λ x. R x - R (suc x))) y + R n ≡ R y
  unfolding down
  tail_cells zero y h = let z : y ≡ 0 = omega arith in rw z (omega arith)
  tail_cells (suc n) y h = elim (cases_lt y (suc n)) [
    | inl lt ↦
        ap (λ b. over nat_ops (cond b (top ∷ below) below) (λ p. p.1) + R (suc n)) (le-leb y n (omega arith))
        ∙ omega (arith, tail_cells n y (omega arith), down' n)
    | inr le ↦
        ap (λ b. over nat_ops (cond b (top ∷ below) below) (λ p. p.1) + R (suc n)) (lt-leb y n (omega arith))
        ∙ (let z : y ≡ suc n = omega arith in
        let e : over nat_ops below (λ p. p.1) ≡ 0 = tail_beyond nat_laws n (cells n (λ x. R x - R (suc x))) y (below_cells n n _ (omega arith)) (omega arith) in
        ap (λ u. u + R (suc n)) e ∙ (let r : 0 + R (suc n) ≡ R (suc n) = omega arith in r) ∙ ap R (sym z))
  ]
    where
      top : ℕ × ℕ
      top = (n, R n - R (suc n))

      below : List (ℕ × ℕ)
      below = filter (λ p. leb y p.0) (cells n (λ x. R x - R (suc x)))

moved_falls : (l : Leg) (R : ℕ → ℕ) → ((x : ℕ) → R (suc x) ≤ R x) → (y : ℕ) → moved nat_ops 257 l R (suc y) ≤ moved nat_ops 257 l R y
moved_falls l R down' y =
    over_least nat_laws (readings nat_ops l.table) _ _
    (λ q. mul-le-mul_left q.1
    (falls R down' _ _ (first_anti (λ x. leb y (l.move x q.0)) (λ x. leb (suc y) (l.move x q.0)) 257
    (λ x e. le-leb y (l.move x q.0) (omega (arith, leb-true (suc y) (l.move x q.0) e))))))

moved_end : (l : Leg) (R : ℕ → ℕ) → SoundLeg l → R 257 ≡ 0 → moved nat_ops 257 l R 257 ≡ 0
moved_end l R sound end =
    over_same nat_ops (readings nat_ops l.table) _ (λ q. 0)
    (λ q. ap (λ u. q.1 * R u) (first_none (λ x. leb 257 (l.move x q.0)) 257 (λ x h. lt-leb 257 (l.move x q.0) (sound.stays x q.0 h)))
    ∙ ap (λ u. q.1 * u) end ∙ mul-zero q.1)
    ∙ over_nought nat_laws (readings nat_ops l.table)

pub by_cells : ByCells
by_cells = (
  λ scale opening within weighs. (
    λ x. up_falls _ _ (total opening) weighs (mul-le-mul_left scale (tail_falls (readings nat_ops opening) x)),
    ap (λ u. up (scale * u) (total opening)) (tail_beyond nat_laws 256 (readings nat_ops opening) 257 (below_readings nat_ops 256 opening within) (omega arith))
        ∙ ap (λ u. up u (total opening)) (mul-zero scale) ∙ up_zero (total opening) weighs,
  ),
  λ l R sound falling.
      let tails : (y : ℕ) → y ≤ 257 → rest nat_ops 257 (λ x. R x - R (suc x)) y ≡ R y =
      λ y h. (omega (arith, tail_cells R falling.0 257 y h, falling.1)) in
      record {
        tails = tails;
        steps = λ y.
            rest_next nat_laws 257 l (λ x. R x - R (suc x)) y sound.stays
            ∙ tail_by_times nat_laws 257 l.move (cells 257 (λ x. R x - R (suc x))) (readings nat_ops l.table) y sound.rises (below_cells 257 257 _ (omega arith))
            ∙ over_same nat_ops (readings nat_ops l.table) _ _ (λ q. ap (λ u. q.1 * u) (tails _ (first_le (λ x. leb y (l.move x q.0)) 257)));
        falls = (
          λ y. up_falls _ _ (total l.table) sound.weighs (moved_falls l R falling.0 y),
          ap (λ u. up u (total l.table)) (moved_end l R sound falling.1) ∙ up_zero (total l.table) sound.weighs,
        );
      },
)
