-- One table added to a sheet of counts, and its tails divided: one step of the rounded walk. Assumes nothing.
use Rattle.std.proofs.Common.{◌≡◌, ℕ, ◌*◌, ◌^◌, ◌<◌, ◌≤◌, leb, List, sym, ap, ◌∙◌, mul-le-mul_left, arith}
use mathlib.Core.Path.{fun_ext}
use Rattle.theory.specs.Semiring.{Ops, Laws}
use Rattle.theory.specs.Sums.{weigh, mean, cells, first}
use Rattle.theory.specs.Sums.{tail as spread_tail}
use Rattle.theory.specs.Walk.{Leg, readings, next, after}
use Rattle.theory.specs.Theorems.{Fair}
use Rattle.theory.specs.Rounded.{nat_ops, total, up, moved, rounded_start, rounded_next}
use Rattle.theory.proofs.Sums.{over_same}
use Rattle.theory.proofs.Pushed.{below_cells, below_readings, tail_mean, mean_stepped}
use Rattle.theory.proofs.Tails.{mean_same, rest_next, tail_by_times}
use Rattle.theory.proofs.Moves.{moves_fair}
use Rattle.analysis.specs.Cells.{tail, added}
use Rattle.kinds.specs.Counts.{Count, count_ops, count_laws, counted}
use Rattle.kinds.specs.Stopped.{stop}
use Rattle.analysis.specs.declared.pair.Pair.{Pair}
use Rattle.analysis.proofs.Kept.{tail_bound, rounding_divides}
use Rattle.analysis.proofs.Quotients.{up_most}
use Rattle.scenarios.specs.Questions.{drawn_from}
use Rattle.scenarios.specs.Walks.{lone, settled}
use Rattle.scenarios.specs.Theorems.{Fit}
use Rattle.scenarios.proofs.Bridge.{tail_is_rest}
use Rattle.scenarios.proofs.BridgeAdding.{added_is_next}
use Rattle.scenarios.proofs.BridgePassing.{cells_same, below_small, from_none, lone_mean}
use Rattle.scenarios.proofs.Plain.{count_mean, count_tail, mean_most, plain_total, tail_total}

module _ {K : Type 0} {ops : Ops K} {least : K → K → Type 0} (laws : Laws ops least) where
  -- the tails of a sheet g that is one step on from f
  pub step_tail : (l : Leg) (f g : ℕ → K) → Fair l.move → ((v : ℕ) → v < 257 → g v ≡ next ops 257 l f v)
      → (y : ℕ) → tail ops g y ≡ moved ops 257 l (tail ops f) y
  step_tail l f g fair same y =
      tail_is_rest laws g y
      ∙ ap (λ C. spread_tail ops C y) (cells_same 257 g (next ops 257 l f) same)
      ∙ rest_next laws 257 l f y fair.stays
      ∙ tail_by_times laws 257 l.move (cells 257 f) (readings ops l.table) y fair.rises (below_cells 257 257 f (omega arith))
      ∙ over_same ops (readings ops l.table) _ _
      (λ q. ap (ops.product q.1) (sym (tail_is_rest laws f (first (λ x. leb y (l.move x q.0)) 257))))

  -- the tails of a sheet with c at the time 0 alone, once the opening table is added
  pub opening_tail : (c : K) (ps : List Pair) → Fit ps → (y : ℕ)
      → tail ops (added ops 0 (lone ops c) ps) y ≡ ops.product c (spread_tail ops (readings ops (drawn_from ps)) y)
  opening_tail c ps fit y =
      let l : Leg = record { move = after 0; table = drawn_from ps } in
      let X = readings ops (drawn_from ps) in
      tail_is_rest laws (added ops 0 (lone ops c) ps) y
      ∙ ap (λ C. spread_tail ops C y) (cells_same 257 _ (next ops 257 l (lone ops c)) (added_is_next laws (lone ops c) ps))
      ∙ rest_next laws 257 l (lone ops c) y (moves_fair.0 0).stays
      ∙ tail_mean laws _ y
      ∙ mean_stepped laws (after 0) (cells 257 (lone ops c)) X (λ z. weigh ops (leb y z))
      ∙ lone_mean laws c (λ x. mean ops X (λ t. weigh ops (leb y (after 0 x t))))
      ∙ ap (ops.product c)
      (mean_same laws 256 X _ (λ t. weigh ops (leb y t)) (below_readings ops 256 (drawn_from ps) (below_small ps fit.small))
      (λ t h. ap (λ (z : ℕ). weigh ops (leb y z)) (from_none t h))
      ∙ sym (tail_mean laws X y))

-- IN COUNTS
abbrev pub tails : (ℕ → Count) → ℕ → ℕ
tails f y = (tail count_ops f y).value

-- the whole weight is at most 1,048,576
abbrev pub Light : (ℕ → ℕ) → Type 0
Light R = R 0 ≤ 1048576

unstopped : (n d : ℕ) → n ≤ 1048576 * d → d ≤ 65535 → stop n ≡ n
unstopped n d h k = omega arith

module _ (ps : List Pair) (fit : Fit ps) where
  abbrev leg : (ℕ → ℕ → ℕ) → Leg
  leg move = record { move = move; table = drawn_from ps }

  divided : (g : ℕ → Count) (y : ℕ) → tails (settled ps g) y ≡ up (tails g y) (total (drawn_from ps))
  divided g y = rounding_divides _ g y ∙ ap (up (tails g y)) (plain_total ps fit.most)

  module _ (move : ℕ → ℕ → ℕ) (f : ℕ → Count) (light : Light (tails f)) where
    moved_most : (y : ℕ) → moved nat_ops 257 (leg move) (tails f) y ≤ 1048576 * total (drawn_from ps)
    moved_most y =
        mean_most (drawn_from ps) (λ t. tails f (first (λ x. leb y (move x t)) 257)) 1048576
        (λ t. tail_bound f (first (λ x. leb y (move x t)) 257) 1048576 light)

    pub settled_is_next : (g : ℕ → Count) → Fair move → ((v : ℕ) → v < 257 → g v ≡ next count_ops 257 (leg move) f v)
        → tails (settled ps g) ≡ rounded_next (leg move) (tails f)
    settled_is_next g fair same = fun_ext (λ y.
        divided g y
        ∙ ap (λ n. up n (total (drawn_from ps)))
        (ap (λ v. v.value) (step_tail count_laws (leg move) f g fair same y)
        ∙ count_mean (drawn_from ps) (λ t. tail count_ops f (first (λ x. leb y (move x t)) 257))
        ∙ unstopped _ _ (moved_most y) fit.most))

    pub next_light : Light (rounded_next (leg move) (tails f))
    next_light = up_most _ 1048576 (total (drawn_from ps)) (moved_most 0)

  scaled : (y : ℕ) → (count_ops.product (counted 1048576) (spread_tail count_ops (readings count_ops (drawn_from ps)) y)).value ≡ 1048576 * spread_tail nat_ops (readings nat_ops (drawn_from ps)) y
  scaled y = by _ _ (count_tail (drawn_from ps) y) (tail_total (drawn_from ps) y)
    where
      by : (a u : ℕ) → u ≡ stop a → a ≤ total (drawn_from ps) → stop (stop 1048576 * u) ≡ 1048576 * a
      by a u e h = omega (arith, fit.most)

  pub opening_is_start : tails (settled ps (added count_ops 0 (lone count_ops (counted 1048576)) ps)) ≡ rounded_start (2 ^ 20) (drawn_from ps)
  opening_is_start = fun_ext (λ y.
      divided _ y
      ∙ ap (λ n. up n (total (drawn_from ps)))
      (ap (λ v. v.value) (opening_tail count_laws (counted 1048576) ps fit y) ∙ scaled y))

  pub start_light : Light (rounded_start (2 ^ 20) (drawn_from ps))
  start_light = up_most _ 1048576 (total (drawn_from ps)) (mul-le-mul_left 1048576 (tail_total (drawn_from ps) 0))
