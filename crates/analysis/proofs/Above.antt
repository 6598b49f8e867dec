-- Adding a table, on the parts of a sheet. Assumes nothing.
use Rattle.std.proofs.Common.{◌≡◌, ℕ, ◌+◌, ◌-◌, ◌<◌, ◌≤◌, leb, ◌⊎◌, List, ◌++◌, length, take, drop, set, sym, ap, ◌∙◌, inl, inr, length-append, length-take-le, length-drop, arith}
use Rattle.std.proofs.lemmas.List.{get_or-take}
use Rattle.std.proofs.lemmas.Bool.{cases_lt, cases_order, cond-true, cond-false, le-leb, lt-leb}
use Rattle.std.proofs.lemmas.Bool.Decides.{nat_tests}
use borrow.Rule.Slice.PartMut.{put_mid, same_len_mid}
use Rattle.theory.specs.Semiring.{Ops}
use Rattle.analysis.specs.Cells.{cells, span, over, first, total, share, arriving, beyond, added}
use Rattle.analysis.specs.Inner.{joint, excess, overdue, carried_past, overrun_past, scaled}
use Rattle.analysis.specs.declared.pair.Pair.{Pair}
use Rattle.analysis.proofs.Steps.{put, same_cells, cells_set, joint_below, joint_above}
use Rattle.analysis.proofs.Parts.{cells_part, cells_front, cells_mid}
use Rattle.analysis.proofs.Whole.{span_same}

module _ {K : Type 0} (o : Ops K) (low : ℕ) (g f : ℕ → K) where
  share_at : (k : ℕ) (p : Pair) → ((i : ℕ) → i ≤ k → g i ≡ f (low + i)) → (k < p.time) ⊎ (p.time ≤ k) → share o 0 g k p ≡ share o low f (low + k) p
  share_at k p e (inr l) =
      let at : low + (k - p.time) ≡ low + k - p.time = omega arith in
      cond-true (leb (0 + p.time) k) _ _ (le-leb _ _ (omega arith))
      ∙ ap (λ v. o.product v (o.read p.weight)) (e (k - p.time) (omega arith) ∙ ap f at)
      ∙ sym (cond-true (leb (low + p.time) (low + k)) _ _ (le-leb _ _ (omega arith)))
  share_at k p e (inl l) =
      cond-false (leb (0 + p.time) k) _ _ (lt-leb _ _ (omega arith))
      ∙ sym (cond-false (leb (low + p.time) (low + k)) _ _ (lt-leb _ _ (omega arith)))

  -- what comes to a place of the part comes to that place of the sheet
  pub arriving_part : (table : List Pair) (k : ℕ) → ((i : ℕ) → i ≤ k → g i ≡ f (low + i)) → arriving o 0 g table k ≡ arriving o low f table (low + k)
  arriving_part table k e = ap (λ h. over o h table) (λ i p. share_at k p e (cases_lt k p.time) i)

  carried_part : (n : ℕ) (p : Pair) → low + n ≡ 257 → low ≤ 256 → ((i : ℕ) → i < n → g i ≡ f (low + i)) → carried_past o n g p ≡ excess o low f p
  carried_part n p long most e =
      let from = n - (p.time + 1) in
      let many : n - from ≡ 257 - first low p.time = omega arith in
      ap (λ v. o.product v (o.read p.weight)) (
      span_same o g f from (first low p.time) (n - from)
      (λ k l. e (from + k) (omega arith) ∙ ap f (let at : low + (from + k) ≡ first low p.time + k = omega arith in at))
      ∙ ap (span o f (first low p.time)) many
      )

  -- what leads past the part leads beyond
  pub overrun_part : (n : ℕ) (table : List Pair) → low + n ≡ 257 → low ≤ 256 → ((i : ℕ) → i < n → g i ≡ f (low + i)) → overrun_past o n g table ≡ overdue o low f table
  overrun_part n table long most e = ap (λ h. over o h table) (λ i p. carried_part n p long most e i)

module _ {K : Type 0} (o : Ops K) (low : ℕ) (f : ℕ → K) (table : List Pair) where
  added_at : (z q : ℕ → K) (y : K) → low ≤ 256 → ((k : ℕ) → k < low → z k ≡ o.product (f k) (total o table))
      → ((k : ℕ) → low ≤ k → k < 256 → q k ≡ arriving o low f table k) → ((k : ℕ) → 256 < k → q k ≡ f k) → y ≡ beyond o low f table
      → (k : ℕ) → (k ≡ 256) ⊎ ((k < 256) ⊎ (256 < k)) → (k < low) ⊎ (low ≤ k) → put (joint z q low) 256 y k ≡ added o low f table k
  unfolding added
  added_at z q y most below among past last k (inl e) side = grind (arith, nat_tests)
  added_at z q y most below among past last k (inr (inl l)) (inl s) = let h = below k s in grind (arith, nat_tests)
  added_at z q y most below among past last k (inr (inl l)) (inr s) = let h = among k s l in grind (arith, nat_tests)
  added_at z q y most below among past last k (inr (inr l)) side = let h = past k l in grind (arith, nat_tests)

-- the part between low and 256 was written, and then the part below low
module _ {K : Type 0} (o : Ops K) (low : ℕ) (xs ys zs : List K) (table : List Pair) where
  abbrev pub moved : List K
  moved = take (256 - low) (drop low xs)

  abbrev pub written : List K
  written = put_mid low (256 - low) xs ys

  module _ (most : low ≤ 256) (long : 257 ≤ length xs) (len_ys : length ys ≡ 256 - low) (is_ys : cells o ys ≡ joint (arriving o 0 (cells o moved) table) (cells o moved) (length moved)) where
    len_moved : length moved ≡ 256 - low
    len_moved = length-take-le (256 - low) (drop low xs) (omega (arith, length-drop low xs))

    abbrev above : ℕ → K
    above = joint (λ k. cells o ys (k - low)) (cells o xs) (low + (256 - low))

    len_written : length written ≡ length xs
    len_written = same_len_mid low (256 - low) xs ys (len_ys ∙ sym len_moved)

    pub front : length (take low written) ≡ low
    front = length-take-le low written (omega (arith, len_written))

    written_is : cells o written ≡ joint (cells o xs) above low
    written_is = cells_mid o low (256 - low) xs ys (omega arith) len_ys

    written_among : (k : ℕ) → low ≤ k → k < 256 → cells o written k ≡ arriving o low (cells o xs) table k
    written_among k l m =
        let back : low + (k - low) ≡ k = omega arith in
        ap (λ c. c k) written_is ∙ joint_above (cells o xs) above low k l ∙ joint_below (λ k. cells o ys (k - low)) (cells o xs) (low + (256 - low)) k (omega arith)
        ∙ ap (λ c. c (k - low)) is_ys ∙ joint_below (arriving o 0 (cells o moved) table) (cells o moved) (length moved) (k - low) (omega (arith, len_moved))
        ∙ arriving_part o low (cells o moved) (cells o xs) table (k - low) (λ i h. cells_part o xs low (256 - low) i (omega arith))
        ∙ ap (arriving o low (cells o xs) table) back

    written_past : (k : ℕ) → 256 < k → cells o written k ≡ cells o xs k
    written_past k l = ap (λ c. c k) written_is ∙ joint_above (cells o xs) above low k (omega arith) ∙ joint_above (λ k. cells o ys (k - low)) (cells o xs) (low + (256 - low)) k (omega arith)

    written_below : (k : ℕ) → k < low → cells o (take low written) k ≡ cells o xs k
    written_below k l = get_or-take low written k o.nought l ∙ ap (λ c. c k) written_is ∙ joint_below (cells o xs) above low k l

    pub added_parts : (w y : K) → length zs ≡ length (take low written)
        → cells o zs ≡ scaled o (length (take low written)) w (cells o (take low written))
        → w ≡ total o table → y ≡ beyond o low (cells o xs) table → cells o (set (zs ++ drop low written) 256 y) ≡ added o low (cells o xs) table
    added_parts w y len_zs is_zs whole last =
        cells_set o (zs ++ drop low written) 256 y (omega (arith, front, len_written, length-append zs (drop low written), length-drop low written))
        ∙ ap (λ c. put c 256 y) (cells_front o low zs written (len_zs ∙ front))
        ∙ same_cells (λ k. added_at o low (cells o xs) table (cells o zs) (cells o written) y most
        (λ k l. ap (λ c. c k) is_zs ∙ joint_below (λ k. o.product (cells o (take low written) k) w) (cells o (take low written)) (length (take low written)) k (omega (arith, front)) ∙ ap (λ v. o.product v w) (written_below k l) ∙ ap (o.product (cells o xs k)) whole)
        written_among written_past last k (cases_order k 256) (cases_lt k low))
