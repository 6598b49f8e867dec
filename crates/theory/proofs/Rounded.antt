-- The rounded walk stays close to the exact one. Assumes nothing.
use Rattle.std.proofs.Common.{◌≡◌, ℕ, suc, ◌+◌, ◌-◌, ◌*◌, ◌^◌, ◌<◌, ◌≤◌, leb, List, [], ◌∷◌, map, length, sym, ap, ◌∙◌, subst, subst₂, add_assoc, mul-le-mul_right, mod-lt, mul_assoc, mul_comm, add-mul, mul-le-mul, add_comm, mul-le-mul_left, one-mul, div-add-mod', zero-add, zero-mul, mul-one, mul-suc, mul-add, arith}
use Rattle.std.proofs.Math.Nat.{suc-mul}
use Rattle.theory.specs.Semiring.{Laws}
use Rattle.theory.specs.Sums.{mean, cell, tail, Below, cells, first}
use Rattle.theory.specs.Walk.{Table, Leg, readings, next, run, sheet, rest}
use Rattle.theory.specs.Rounded.{nat_ops, nat_least, total, totals, up, rounded_start, rounded_next, rounded, SoundLeg, Sound, Close, Rounded}
use Rattle.theory.proofs.Pushed.{below_cells}
use Rattle.theory.proofs.Tails.{tail_by_times, rest_next, rest_opening}

pub nat_laws : Laws nat_ops nat_least
nat_laws = record {
  sum_assoc = add_assoc;
  sum_comm = add_comm;
  sum_nought = zero-add;
  product_assoc = mul_assoc;
  product_comm = mul_comm;
  product_unit = one-mul;
  product_nought = zero-mul;
  distributive = mul-add;
  least_refl = λ x. omega arith;
  least_trans = λ x y z h k. omega arith;
  least_sum = λ a b c d h k. omega arith;
  least_product = λ a b c d h k. mul-le-mul h k;
}

pub up_over : (a d : ℕ) → 0 < d → a ≤ up a d * d
unfolding up
up_over a d h = omega (arith, div-add-mod' (a + (d - 1)) d, mod-lt (a + (d - 1)) h)

pub up_little : (a d : ℕ) → 0 < d → up a d * d < a + d
unfolding up
up_little a d h = omega (arith, div-add-mod' (a + (d - 1)) d)

module _ (C P : ℕ) (f g : ℕ → ℕ) where
  means_over : (X : Table) → ((t : ℕ) → f t * C ≤ g t * P) → mean nat_ops (readings nat_ops X) f * C ≤ mean nat_ops (readings nat_ops X) g * P
  means_over [] h = omega arith
  means_over (q ∷ X) h =
      let A = mean nat_ops (readings nat_ops X) f in
      let B = mean nat_ops (readings nat_ops X) g in
      let w = q.1 in
      let t = q.0 in
      omega (arith, means_over X h, add-mul (w * f t) A C, add-mul (w * g t) B P, mul_assoc w (f t) C, mul_assoc w (g t) P, mul-le-mul_left w (h t))

  means_little : (n : ℕ) (X : Table) → ((t : ℕ) → g t * P < f t * C + n * P)
      → mean nat_ops (readings nat_ops X) g * P + total X ≤ mean nat_ops (readings nat_ops X) f * C + total X * (n * P)
  means_little n [] h = omega arith
  means_little n (q ∷ X) h =
      let A = mean nat_ops (readings nat_ops X) f in
      let B = mean nat_ops (readings nat_ops X) g in
      let w = q.1 in
      let t = q.0 in
      omega (
        arith,
        means_little n X h,
        add-mul (w * f t) A C,
        add-mul (w * g t) B P,
        mul_assoc w (f t) C,
        mul_assoc w (g t) P,
        mul-le-mul_left w (h t),
        mul-suc w (g t * P),
        mul-add w (f t * C) (n * P),
        add-mul w (total X) (n * P),
      )

-- one step
close_next : (C P n : ℕ) (l : Leg) (s R : ℕ → ℕ) → SoundLeg l → ((y : ℕ) → Close C P n (rest nat_ops 257 s y) (R y))
    → (y : ℕ) → Close C (P * total l.table) (suc n) (rest nat_ops 257 (next nat_ops 257 l s) y) (rounded_next l R y)
close_next C P n l s R sound close y = subst (λ (z : ℕ). Close C (P * d) (suc n) z R') (sym exact) (record {
  over_it = omega (
    arith,
    up_over a d sound.weighs,
    means_over C P N M l.table (λ t. (close (at t)).over_it),
    mul-le-mul_right P (up_over a d sound.weighs),
    mul_assoc R' d P,
    ap (λ z. R' * z) (mul_comm d P),
  );
  by_little = omega (
    arith,
    sound.weighs,
    means_little C P N M n l.table (λ t. (close (at t)).by_little),
    mul-le-mul_right P (up_little a d sound.weighs),
    mul_assoc R' d P,
    ap (λ z. R' * z) (mul_comm d P),
    add-mul a d P,
    suc-mul (R' * d) P,
    suc-mul n (P * d),
    shuffled,
    mul_comm d P,
  );
})
  where
    X : List (ℕ × ℕ)
    X = readings nat_ops l.table

    d : ℕ
    d = total l.table

    at : ℕ → ℕ
    at t = first (λ x. leb y (l.move x t)) 257

    N : ℕ → ℕ
    N t = rest nat_ops 257 s (at t)

    M : ℕ → ℕ
    M t = R (at t)

    a : ℕ
    a = mean nat_ops X M

    R' : ℕ
    R' = up a d

    exact : rest nat_ops 257 (next nat_ops 257 l s) y ≡ mean nat_ops X N
    exact =
        rest_next nat_laws 257 l s y sound.stays
        ∙ tail_by_times nat_laws 257 l.move (cells 257 s) X y sound.rises (below_cells 257 257 s (omega arith))

    shuffled : d * (n * P) ≡ n * (P * d)
    shuffled = mul_comm d (n * P) ∙ mul_assoc n P d

close_run : (C P n : ℕ) (ls : List Leg) (s R : ℕ → ℕ) → Sound ls → ((y : ℕ) → Close C P n (rest nat_ops 257 s y) (R y))
    → (y : ℕ) → Close C (P * totals (map (λ l. l.table) ls)) (length (map (λ l. l.table) ls) + n) (rest nat_ops 257 (run nat_ops 257 ls s) y) (rounded ls R y)
close_run C P n [] s R sound close y =
    subst₂ (λ (u v : ℕ). Close C u v (rest nat_ops 257 s y) (R y)) (sym (mul-one P)) (sym (zero-add n)) (close y)
close_run C P n (l ∷ ls) s R sound close y =
    let ts : List Table = map (λ k. k.table) ls in
    let d : ℕ = total l.table in
    let more : length ts + suc n ≡ suc (length ts) + n = omega arith in
    subst₂ (λ (u v : ℕ). Close C u v (rest nat_ops 257 (run nat_ops 257 ls (next nat_ops 257 l s)) y) (rounded ls (rounded_next l R) y))
    (mul_assoc P d (totals ts)) more
    (close_run C (P * d) (suc n) ls (next nat_ops 257 l s) (rounded_next l R) sound.1 (close_next C P n l s R sound.0 close) y)

close_start : (C : ℕ) (opening : Table) → Below 256 opening → 0 < total opening
    → (y : ℕ) → Close C (total opening) 1 (rest nat_ops 257 (λ v. cell nat_ops (readings nat_ops opening) v) y) (rounded_start C opening y)
close_start C opening within weighs y =
    let N : ℕ = tail nat_ops (readings nat_ops opening) y in
    let d : ℕ = total opening in
    subst (λ (z : ℕ). Close C d 1 z (up (C * N) d)) (sym (rest_opening nat_laws opening y within))
    (record {
      over_it = omega (arith, up_over (C * N) d weighs, mul_comm C N);
      by_little = omega (arith, up_little (C * N) d weighs, mul_comm C N);
    })

pub rounded_stands : Rounded
rounded_stands opening legs within weighs sound y =
    let ts : List Table = map (λ l. l.table) legs in
    let more : length ts + 1 ≡ suc (length ts) = omega arith in
    subst (λ (v : ℕ). Close (2 ^ 20) (total opening * totals ts) v (rest nat_ops 257 (sheet nat_ops 257 opening legs) y) (rounded legs (rounded_start (2 ^ 20) opening) y))
    more
    (close_run (2 ^ 20) (total opening) 1 legs (λ v. cell nat_ops (readings nat_ops opening) v) (rounded_start (2 ^ 20) opening) sound
    (close_start (2 ^ 20) opening within weighs) y)
