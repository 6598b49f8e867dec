-- The first 257 cells of a sheet. Assumes nothing.
use Rattle.std.proofs.Common.{◌≡◌, ℕ, ◌+◌, ◌-◌, ◌<◌, ◌≤◌, min, ◌⊎◌, List, ◌++◌, length, take, drop, set, sym, refl, ap, ◌∙◌, inl, inr, length-append, length-take-le, arith}
use Rattle.std.proofs.lemmas.List.{get_or-take, get_or_past}
use borrow.Rule.Slice.PartMut.{put_mid}
use Rattle.std.proofs.lemmas.Bool.{cases_lt, cases_eq}
use Rattle.std.proofs.lemmas.Bool.Decides.{nat_tests}
use Rattle.theory.specs.Semiring.{Ops}
use Rattle.analysis.specs.Cells.{cells, span, tail, passed, tailed, cleared}
use Rattle.kinds.specs.Counts.{Count, count_ops}
use Rattle.analysis.specs.Inner.{joint, tails_to, fallen}
use Rattle.analysis.specs.Rounding.{lessened, rounded_off}
use Rattle.analysis.proofs.Steps.{put, cells_set, same_cells, joint_below, joint_above}
use Rattle.analysis.proofs.Parts.{cells_front, cells_mid}
use Rattle.analysis.proofs.Whole.{span_same}

module _ {K : Type 0} (o : Ops K) where
  pub cleared_is : (f : ℕ → K) → joint (λ _. o.nought) f 257 ≡ cleared o f
  unfolding cleared
  cleared_is f = refl

  pub tailed_is : (f : ℕ → K) → joint (tail o f) f 257 ≡ tailed o f
  unfolding tailed
  tailed_is f = refl

  front_tail_at : (xs : List K) (k n : ℕ) → n ≡ 257 → tails_to o n (cells o (take 257 xs)) k ≡ tail o (cells o xs) k
  front_tail_at xs k n e =
      span_same o (cells o (take 257 xs)) (cells o xs) k k (n - k) (λ j l. get_or-take 257 xs (k + j) o.nought (omega arith))
      ∙ ap (λ m. span o (cells o xs) k (m - k)) e

  -- the sums of the front are the tails
  pub front_tails : (xs : List K) → 257 ≤ length xs → tails_to o (length (take 257 xs)) (cells o (take 257 xs)) ≡ tail o (cells o xs)
  front_tails xs l = same_cells (λ k. front_tail_at xs k (length (take 257 xs)) (length-take-le 257 xs l))

  -- the front was made its tails
  pub tailed_done : (ys xs : List K) → 257 ≤ length xs → length ys ≡ length (take 257 xs) → cells o ys ≡ tails_to o (length (take 257 xs)) (cells o (take 257 xs)) → cells o (ys ++ drop 257 xs) ≡ tailed o (cells o xs)
  tailed_done ys xs l same is =
      cells_front o 257 ys xs (omega (arith, length-take-le 257 xs l)) ∙ ap (λ f. joint f (cells o xs) 257) (is ∙ front_tails xs l) ∙ tailed_is (cells o xs)

  -- the sum of the first n cells
  pub front_span : (xs : List K) (n : ℕ) → n ≤ length xs → span o (cells o (take n xs)) 0 (length (take n xs)) ≡ span o (cells o xs) 0 n
  front_span xs n l =
      ap (span o (cells o (take n xs)) 0) (length-take-le n xs l)
      ∙ span_same o (cells o (take n xs)) (cells o xs) 0 0 n (λ j h. get_or-take n xs (0 + j) o.nought (omega arith))

  -- cs has what stood g places above in xs, and m cells of it from the place a on were made nought
  module _ (xs cs ys : List K) (g a m : ℕ) (low : g ≤ length xs) (from : a ≡ length xs - g) (rest : m ≡ length cs - a) (alike : length cs ≡ length xs) (many : length ys ≡ m) (none : cells o ys ≡ (λ _. o.nought)) (moved : (k : ℕ) → k < a → cells o cs k ≡ cells o xs (g + k)) where
    abbrev emptied : ℕ → K
    emptied = joint (λ k. cells o ys (k - a)) (cells o cs) (a + m)

    emptied_at : (k : ℕ) → a ≤ k → (k < a + m) ⊎ (a + m ≤ k) → emptied k ≡ cells o xs (k + g)
    emptied_at k l (inl s) =
        joint_below (λ k. cells o ys (k - a)) (cells o cs) (a + m) k s ∙ ap (λ f. f (k - a)) none ∙ sym (get_or_past xs (k + g) o.nought (omega arith))
    emptied_at k l (inr s) =
        joint_above (λ k. cells o ys (k - a)) (cells o cs) (a + m) k s ∙ get_or_past cs k o.nought (omega arith) ∙ sym (get_or_past xs (k + g) o.nought (omega arith))

    fallen_at : (k : ℕ) → (k < a) ⊎ (a ≤ k) → joint (cells o cs) emptied a k ≡ cells o xs (k + g)
    fallen_at k (inl l) =
        let at : g + k ≡ k + g = omega arith in
        joint_below (cells o cs) emptied a k l ∙ moved k l ∙ ap (cells o xs) at
    fallen_at k (inr l) = joint_above (cells o cs) emptied a k l ∙ emptied_at k l (cases_lt k (a + m))

    pub fallen_is : cells o (put_mid a m cs ys) ≡ fallen g (cells o xs)
    unfolding fallen
    fallen_is = cells_mid o a m cs ys (omega arith) many ∙ same_cells (λ k. fallen_at k (cases_lt k a))

  module _ (g m : ℕ) (f c : ℕ → K) (due : K) (all : m ≡ min g 255) (fallen : (k : ℕ) → k < 256 - m → c k ≡ f (m + k)) (gone : (k : ℕ) → 256 - m ≤ k → c k ≡ o.nought) (first : due ≡ span o f 0 (m + 1)) where
    passed_at : (k : ℕ) → (k ≡ 0) ⊎ (k ≡ 0 → ⊥) → (k < 256 - m) ⊎ (256 - m ≤ k) → (k < 256) ⊎ (256 ≤ k) → put (joint c f 256) 0 due k ≡ passed o g f k
    unfolding passed
    passed_at k (inl z) s t = let h = first ∙ ap (λ n. span o f 0 (n + 1)) all in grind (arith, nat_tests)
    passed_at k (inr n) (inl s) t =
        let at : m + k ≡ k + g = omega arith in
        let h = fallen k s ∙ ap f at in
        grind (arith, nat_tests)
    passed_at k (inr n) (inr s) (inl t) = let h = gone k s in grind (arith, nat_tests)
    passed_at k (inr n) (inr s) (inr t) = grind (arith, nat_tests)

    pub passed_is : put (joint c f 256) 0 due ≡ passed o g f
    passed_is = same_cells (λ k. passed_at k (cases_eq k 0) (cases_lt k (256 - m)) (cases_lt k 256))

module _ {K : Type 0} (o : Ops K) where
  front_fallen : (xs : List K) (m k : ℕ) → k < 256 - m → fallen m (cells o (take 256 xs)) k ≡ cells o xs (m + k)
  unfolding fallen
  front_fallen xs m k l = let at : k + m ≡ m + k = omega arith in get_or-take 256 xs (k + m) o.nought (omega arith) ∙ ap (cells o xs) at

  front_gone : (xs : List K) (m k : ℕ) → length (take 256 xs) ≡ 256 → 256 - m ≤ k → fallen m (cells o (take 256 xs)) k ≡ o.nought
  unfolding fallen
  front_gone xs m k e l = get_or_past (take 256 xs) (k + m) o.nought (omega arith)

  -- the front fell, and what was due stands in cell 0
  pub passed_done : (g m : ℕ) (due : K) (ys xs : List K) → 257 ≤ length xs → m ≡ min g 255 → length ys ≡ length (take 256 xs) → cells o ys ≡ fallen m (cells o (take 256 xs))
      → due ≡ span o (cells o (take (m + 1) xs)) 0 (length (take (m + 1) xs)) → cells o (set (ys ++ drop 256 xs) 0 due) ≡ passed o g (cells o xs)
  passed_done g m due ys xs long all same is sum =
      let times : length (take 256 xs) ≡ 256 = length-take-le 256 xs (omega (arith, long)) in
      cells_set o (ys ++ drop 256 xs) 0 due (omega (arith, same, times, length-append ys (drop 256 xs)))
      ∙ ap (λ f. put f 0 due) (cells_front o 256 ys xs (omega (arith, times, same)) ∙ ap (λ f. joint f (cells o xs) 256) is)
      ∙ passed_is o g m (cells o xs) (fallen m (cells o (take 256 xs))) due all (front_fallen xs m) (λ k l. front_gone xs m k times l) (sum ∙ front_span o xs (m + 1) (omega (arith, long)))

pub rounded_is : (by : ℕ) (f : ℕ → Count) → joint (lessened by (tail count_ops f)) f 257 ≡ rounded_off by f
unfolding rounded_off
rounded_is by f = refl

-- the front was made its tails, and these were rounded
pub rounded_done : (by : ℕ) (zs ys xs : List Count) → 257 ≤ length xs → length ys ≡ length (take 257 xs) → length zs ≡ length ys → cells count_ops ys ≡ tails_to count_ops (length (take 257 xs)) (cells count_ops (take 257 xs))
    → cells count_ops zs ≡ lessened by (cells count_ops ys) → cells count_ops (zs ++ drop 257 xs) ≡ rounded_off by (cells count_ops xs)
rounded_done by zs ys xs l same alike tails is =
    cells_front count_ops 257 zs xs (omega (arith, length-take-le 257 xs l))
    ∙ ap (λ f. joint f (cells count_ops xs) 257) (is ∙ ap (lessened by) (tails ∙ front_tails count_ops xs l)) ∙ rounded_is by (cells count_ops xs)
