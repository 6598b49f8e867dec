-- Between two releases of a task there is none.
use Rattle.std.proofs.Common.{◌≡◌, ℕ, ◌+◌, ◌-◌, ◌*◌, ◌/◌, ◌%◌, ◌<◌, ◌≤◌, false, mod-lt, arith}
use native.Mathlib.Nat.{mul-mod_right, div-add-mod}
use Rattle.std.proofs.lemmas.Bool.{and_right, ne_eqb}
use Rattle.board.specs.Model.{Entry}
use Rattle.board.specs.Jobs.{releases}
use Rattle.board.proofs.Multiples.{none_between}

-- a number that is no multiple of m, and the multiple of m after it: none between them is one
pub none_until : (m x y : ℕ) → 1 ≤ m → (x % m ≡ 0 → ⊥) → x ≤ y → y < x + (m - x % m) → y % m ≡ 0 → ⊥
none_until m x y pos miss le lt e =
    let q = m * (x / m) in
    let whole : q + x % m ≡ x = div-add-mod x m in
    let small : x % m < m = mod-lt x pos in
    none_between m q y (mul-mod_right m (x / m)) e (omega arith) (omega arith)

pub quiet_until : (e : Entry) (from k : ℕ) → 1 ≤ e.period → e.phase < from → ((from - e.phase) % e.period ≡ 0 → ⊥) → from ≤ k → k < from + (e.period - (from - e.phase) % e.period) → releases e k ≡ false
quiet_until e from k pos after miss le lt =
    and_right _ _ (ne_eqb _ 0 (none_until e.period (from - e.phase) (k - e.phase) pos miss (omega arith) (omega arith)))
