-- A rounded late weight is at most 1,048,576.
use Rattle.std.proofs.Common.{◌≡◌, ℕ, ◌+◌, ◌-◌, ◌*◌, ◌<◌, ◌≤◌, true, false, ltb, leb, List, [], ◌∷◌, Option, sym, refl, ap, ◌∙◌, subst, ⊎_elim, le_trans, arith, lit≤}
use Rattle.std.proofs.lemmas.Bool.{cases_lt, cases_Bool, lt-ltb, le-ltb}
use Rattle.theory.specs.Semiring.{Ops}
use Rattle.analysis.specs.declared.pair.Pair.{Pair}
use Rattle.kinds.specs.Counts.{Count, count_ops, counted as count_of}
use Rattle.scenarios.specs.Walks.{lone, settled}
use Rattle.analysis.specs.Cells.{span, tail, total, passed, added, over, first, fresh, beyond}
use Rattle.analysis.proofs.Steps.{same_cells}
use Rattle.analysis.proofs.Kept.{tail_most, passed_bound, added_bound, rounded_bound}
use Rattle.board.specs.Model.{Entry}
use Rattle.board.specs.Jobs.{Rule, Job, counted}
use Rattle.board.specs.Walk.{Walk, begun, stepped, walked, late_over}

module _ {K : Type 0} (o : Ops K) (f : ℕ → K) where
  fresh_none : (low : ℕ) (p : Pair) → 256 ≤ low → fresh o low f p ≡ o.product o.nought (o.read p.weight)
  fresh_none low p h =
      let z : 256 - first low p.time ≡ 0 = omega arith in
      ap (λ n. o.product (span o f (first low p.time) n) (o.read p.weight)) z

  beyond_most : (low : ℕ) (table : List Pair) → 256 ≤ low → beyond o low f table ≡ beyond o 256 f table
  beyond_most low table h =
      ap (λ (s : Pair → K). o.sum (over o s table) (o.product (f 256) (total o table))) (λ i p. (fresh_none low p h ∙ sym (fresh_none 256 p (omega arith))) i)

  below_most : (low k : ℕ) → 256 ≤ low → k < 256 → ltb k low ≡ ltb k 256
  below_most low k h l = lt-ltb k low (omega arith) ∙ sym (lt-ltb k 256 l)

-- from 256 on every time is multiplied, as from 256
added_most : (low : ℕ) (f : ℕ → Count) (table : List Pair) → 256 ≤ low → added count_ops low f table ≡ added count_ops 256 f table
unfolding added
added_most low f table h =
    same_cells (λ k.
    ⊎_elim
    (λ (l : k < 256). rw (lt-ltb k 256 l, lt-ltb k low (omega arith)) refl)
    (λ (l : 256 ≤ k). rw (le-ltb k 256 l, beyond_most count_ops f low table h) refl)
    (cases_lt k 256))

strictly : (n m : ℕ) → n < m → n ≤ m
strictly n m h = omega arith

added_any : (low : ℕ) (f : ℕ → Count) (table : List Pair) (m : ℕ) → (tail count_ops f 0).value ≤ m → (tail count_ops (added count_ops low f table) 0).value ≤ m * (total count_ops table).value
added_any low f table m h =
    ⊎_elim
    (λ (l : low < 256). added_bound low f table m (strictly low 256 l) h)
    (λ (l : 256 ≤ low).
    let P : (ℕ → Count) → Type 0 = λ g. (tail count_ops g 0).value ≤ m * (total count_ops table).value in
    subst P (sym (added_most low f table l)) (added_bound 256 f table m (lit≤ tt) h))
    (cases_lt low 256)

settled_bound : (low : ℕ) (table : List Pair) (f : ℕ → Count) (m : ℕ) → (tail count_ops f 0).value ≤ m → (tail count_ops (settled table (added count_ops low f table)) 0).value ≤ m
settled_bound low table f m h = rounded_bound (total count_ops table).value (added count_ops low f table) m (added_any low f table m h)

whole_tail : (tail count_ops (lone count_ops (count_of 1048576)) 0).value ≡ 1048576
whole_tail = refl

begun_bound : (opening : List Pair) → (tail count_ops (begun count_ops settled (count_of 1048576) opening).sheet 0).value ≤ 1048576
unfolding begun
begun_bound opening = settled_bound 0 opening (lone count_ops (count_of 1048576)) 1048576 (omega (arith, whole_tail))

stepped_bound : (a : ℕ) (w : Walk Count) (k : Job) (m : ℕ) → (tail count_ops w.sheet 0).value ≤ m → (tail count_ops (settled k.entry.pairs (stepped count_ops a w k).sheet) 0).value ≤ m
stepped_bound a w k m h =
    ⊎_elim
    (λ (e : leb k.release a ≡ true). rw e (settled_bound 0 k.entry.pairs (passed count_ops (k.release - w.last) w.sheet) m (passed_bound (k.release - w.last) w.sheet m h)))
    (λ (e : leb k.release a ≡ false). rw e (settled_bound (k.release - a + 1) k.entry.pairs w.sheet m h))
    (cases_Bool (leb k.release a))

walked_bound : (a : ℕ) (w : Walk Count) (ks : List Job) (m : ℕ) → (tail count_ops w.sheet 0).value ≤ m → (tail count_ops (walked count_ops settled a w ks).sheet 0).value ≤ m
walked_bound a w [] m h = h
walked_bound a w (k ∷ ks) m h =
    walked_bound a (record { last = (stepped count_ops a w k).last; sheet = settled k.entry.pairs (stepped count_ops a w k).sheet }) ks m (stepped_bound a w k m h)

pub late_bound : (rule : Rule) (ps : List (Option Entry)) (opening : List Pair) (j : Job) → late_over rule ps opening j ≤ 1048576
late_bound rule ps opening j =
    let start = begun count_ops settled (count_of 1048576) opening in
    let w = walked count_ops settled j.release start (counted rule ps j) in
    le_trans (tail_most w.sheet (j.entry.deadline + 1)) (walked_bound j.release start (counted rule ps j) 1048576 (begun_bound opening))
