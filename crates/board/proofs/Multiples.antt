-- Common multiples.
use Rattle.std.proofs.Common.{◌≡◌, ℕ, zero, suc, ◌+◌, ◌-◌, ◌*◌, ◌/◌, ◌%◌, ◌<◌, ◌≤◌, ap, ◌∙◌, ⊎_elim, mod-lt, mod-eq_of_lt, arith}
use native.Mathlib.Nat.{mod-mod_of_dvd, dvd_of_mod-eq-zero, mod-eq-zero_of_dvd, dvd-sub, div-add-mod}
use Rattle.std.proofs.Math.Nat.{mul-mod_left, mul-le-mul_right, lt_of_mul-lt-mul_right, div-mul-le_self}
use Rattle.std.proofs.lemmas.Nat.{le-div}
use Rattle.std.proofs.lemmas.Bool.{cases_lt}

-- between two multiples of a that follow one another there is none
pub none_between : (a m k : ℕ) → m % a ≡ 0 → k % a ≡ 0 → m < k → k < m + a → ⊥
none_between a m k e f lt gt =
    let d : (k - m) % a ≡ 0 = mod-eq-zero_of_dvd a (dvd-sub a (dvd_of_mod-eq-zero a f) (dvd_of_mod-eq-zero a e)) in
    let s : (k - m) % a ≡ k - m = mod-eq_of_lt (omega arith) in
    omega arith

-- each common multiple is a multiple of the least
pub least_divides : (a b m : ℕ) → 1 ≤ m → m % a ≡ 0 → m % b ≡ 0 → ((k : ℕ) → 1 ≤ k → k < m → k % a ≡ 0 → k % b ≡ 0 → ⊥) → (k : ℕ) → k % a ≡ 0 → k % b ≡ 0 → k % m ≡ 0
least_divides a b m pos e f below k g h =
    let x : k % m % a ≡ 0 = mod-mod_of_dvd a k (dvd_of_mod-eq-zero a e) ∙ g in
    let y : k % m % b ≡ 0 = mod-mod_of_dvd b k (dvd_of_mod-eq-zero b f) ∙ h in
    let l : k % m < m = mod-lt k pos in
    ⊎_elim (λ (z : k % m < 1). omega arith) (λ (z : 1 ≤ k % m). absurd (below (k % m) z l x y)) (cases_lt (k % m) 1)

-- the multiple k of a, as a search over the factors meets it
module _ (a b : ℕ) (pos : 1 ≤ a) (k : ℕ) (some : 1 ≤ k) (e : k % a ≡ 0) where
  factor : k / a * a ≡ k
  factor = let w : a * (k / a) + k % a ≡ k = div-add-mod k a in omega arith

  factor_some : 1 ≤ k / a
  factor_some = le-div 1 k a (omega arith) (le_of_factor (k / a) factor)
    where
      le_of_factor : (q : ℕ) → q * a ≡ k → 1 * a ≤ k
      le_of_factor zero w = absurd (omega arith)
      le_of_factor (suc q) w = omega arith

  pub not_both : (n : ℕ) → k / a < n → ((i : ℕ) → 1 ≤ i → i < n → i * a % b ≡ 0 → ⊥) → k % b ≡ 0 → ⊥
  not_both n lt none f = none (k / a) factor_some lt (ap (λ x. x % b) factor ∙ f)

-- where no factor up to 4,096 / a gives a multiple of b, there is no common multiple up to 4,096
pub none_common : (a b : ℕ) → 1 ≤ a → ((i : ℕ) → 1 ≤ i → i < 4096 / a + 1 → i * a % b ≡ 0 → ⊥) → (k : ℕ) → 1 ≤ k → k ≤ 4096 → k % a ≡ 0 → k % b ≡ 0 → ⊥
none_common a b pos none k some le e =
    let fits : k / a * a ≤ 4096 = omega (arith, factor a b pos k some e) in
    let high : k / a ≤ 4096 / a = le-div (k / a) 4096 a (omega arith) fits in
    not_both a b pos k some e (4096 / a + 1) (omega arith) none

-- the first factor that gives a multiple of b gives the least common multiple
pub least_common : (a b n : ℕ) → 1 ≤ a → 1 ≤ n → n < 4096 / a + 1 → n * a % b ≡ 0 → ((i : ℕ) → 1 ≤ i → i < n → i * a % b ≡ 0 → ⊥)
    → (1 ≤ n * a) × (n * a ≤ 4096) × (n * a % a ≡ 0) × (n * a % b ≡ 0) × ((k : ℕ) → k % a ≡ 0 → k % b ≡ 0 → k % (n * a) ≡ 0)
least_common a b n pos some high f none =
    let one : 1 * a ≤ n * a = mul-le-mul_right a some in
    let high' : n ≤ 4096 / a = omega arith in
    let most : n * a ≤ 4096 / a * a = mul-le-mul_right a high' in
    let all : 4096 / a * a ≤ 4096 = div-mul-le_self 4096 a in
    let low : 1 ≤ n * a = omega arith in (
      low,
      omega arith,
      mul-mod_left n a,
      f,
      least_divides a b (n * a) low (mul-mod_left n a) f
          (λ k l u d. not_both a b pos k l d n (lt_of_mul-lt-mul_right a (omega (arith, factor a b pos k l d))) none),
    )
