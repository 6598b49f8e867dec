-- The cells of a part of a sheet, and of a sheet whose part was written. Assumes nothing.
use Rattle.std.proofs.Common.{◌≡◌, ℕ, ◌+◌, ◌-◌, ◌<◌, ◌≤◌, ◌⊎◌, List, length, take, drop, ◌++◌, sym, ap, ◌∙◌, inl, inr, arith}
use Rattle.std.proofs.lemmas.List.{get_or-take, get_or-drop, get_or_append_left, get_or-append_right, get_or_past, places}
use Rattle.std.proofs.lemmas.Bool.{cases_lt}
use Rattle.std.proofs.lemmas.Bool.Decides.{nat_tests}
use borrow.Rule.Slice.PartMut.{put_mid}
use Rattle.theory.specs.Semiring.{Ops}
use Rattle.analysis.specs.Cells.{cells}
use Rattle.analysis.specs.Inner.{joint}
use Rattle.analysis.proofs.Steps.{same_cells, joint_below, joint_above}

module _ {K : Type 0} (o : Ops K) where
  -- a part of n cells from the place a on
  pub cells_part : (xs : List K) (a n k : ℕ) → k < n → cells o (take n (drop a xs)) k ≡ cells o xs (a + k)
  cells_part xs a n k l = get_or-take n (drop a xs) k o.nought l ∙ get_or-drop a xs k o.nought

  front_at : (n : ℕ) (ys xs : List K) → length ys ≡ n → (k : ℕ) → (k < n) ⊎ (n ≤ k) → cells o (ys ++ drop n xs) k ≡ joint (cells o ys) (cells o xs) n k
  front_at n ys xs e k (inl l) =
      get_or_append_left ys (drop n xs) o.nought k (omega arith) ∙ sym (joint_below (cells o ys) (cells o xs) n k l)
  front_at n ys xs e k (inr l) =
      let back : n + (k - n) ≡ k = omega arith in
      get_or-append_right ys (drop n xs) n k o.nought e l ∙ get_or-drop n xs (k - n) o.nought ∙ ap (cells o xs) back
      ∙ sym (joint_above (cells o ys) (cells o xs) n k l)

  -- the first n cells were written
  pub cells_front : (n : ℕ) (ys xs : List K) → length ys ≡ n → cells o (ys ++ drop n xs) ≡ joint (cells o ys) (cells o xs) n
  cells_front n ys xs e = same_cells (λ k. front_at n ys xs e k (cases_lt k n))

  -- n cells from the place a on were written
  pub cells_mid : (a n : ℕ) (xs ys : List K) → a + n ≤ length xs → length ys ≡ n → cells o (put_mid a n xs ys) ≡ joint (cells o xs) (joint (λ k. cells o ys (k - a)) (cells o xs) (a + n)) a
  cells_mid a n xs ys l e = same_cells (λ k. grind (arith, places, nat_tests))

  -- past a part's last cell there is nought
  past_at : (f : ℕ → K) (xs : List K) → ((k : ℕ) → length xs ≤ k → f k ≡ o.nought) → (k : ℕ) → (k < length xs) ⊎ (length xs ≤ k) → joint f (cells o xs) (length xs) k ≡ f k
  past_at f xs e k (inl l) = joint_below f (cells o xs) (length xs) k l
  past_at f xs e k (inr l) = joint_above f (cells o xs) (length xs) k l ∙ get_or_past xs k o.nought l ∙ sym (e k l)

  pub joint_past : (f : ℕ → K) (xs : List K) → ((k : ℕ) → length xs ≤ k → f k ≡ o.nought) → joint f (cells o xs) (length xs) ≡ f
  joint_past f xs e = same_cells (λ k. past_at f xs e k (cases_lt k (length xs)))

  none_at : (f : ℕ → K) (xs : List K) → ((k : ℕ) → length xs ≤ k → f k ≡ o.nought) → (k : ℕ) → (k < length xs) ⊎ (length xs ≤ k) → cells o xs k ≡ joint (cells o xs) f (length xs) k
  none_at f xs e k (inl l) = sym (joint_below (cells o xs) f (length xs) k l)
  none_at f xs e k (inr l) = get_or_past xs k o.nought l ∙ sym (joint_above (cells o xs) f (length xs) k l ∙ e k l)

  -- a loop that goes down from the last cell
  pub joint_last : (f : ℕ → K) (xs : List K) → ((k : ℕ) → length xs ≤ k → f k ≡ o.nought) → cells o xs ≡ joint (cells o xs) f (length xs)
  joint_last f xs e = same_cells (λ k. none_at f xs e k (cases_lt k (length xs)))
