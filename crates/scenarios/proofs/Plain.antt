-- Counts of tables do not stop: their tails, means and totals are those in whole numbers. Assumes nothing.
use Rattle.std.proofs.Common.{◌≡◌, ℕ, ◌+◌, ◌*◌, ◌≤◌, Bool, true, false, cond, leb, List, [], ◌∷◌, refl, ap, ◌∙◌, mul_comm, mul-le-mul_left, mul-add, arith}
use Rattle.std.specs.List.{filter}
use Rattle.theory.specs.Sums.{over, mean, tail}
use Rattle.theory.specs.Walk.{Table, readings, Worse}
use Rattle.theory.specs.Rounded.{nat_ops, nat_least, total}
use Rattle.analysis.specs.Cells.{total as total_of}
use Rattle.kinds.specs.Counts.{Count, count_ops, count_least, count_laws, counted}
use Rattle.kinds.specs.Stopped.{stop, stop_mul}
use Rattle.analysis.specs.declared.pair.Pair.{Pair}
use Rattle.analysis.proofs.Totals.{over_cons}
use Rattle.scenarios.specs.Questions.{Counted, Question, drawn_from, upto}
use Rattle.scenarios.specs.Theorems.{AllFit, Sound, Harder, WorseQuestion}
use Rattle.scenarios.proofs.Eased.{upto_fit, later_fit}

-- sums, tails and means of counts are those of whole numbers, stopped once
pub count_total : (X : Table) → (over count_ops X (λ x. counted x.1)).value ≡ stop (total X)
count_total [] = refl
count_total (x ∷ X) = omega (arith, count_total X)

pub count_tail : (X : Table) (t : ℕ) → (tail count_ops (readings count_ops X) t).value ≡ stop (tail nat_ops (readings nat_ops X) t)
count_tail [] t = refl
count_tail (x ∷ X) t = by (leb t x.0) (count_tail X t)
  where
    by : (b : Bool) → (tail count_ops (readings count_ops X) t).value ≡ stop (tail nat_ops (readings nat_ops X) t)
        → (over {A = ℕ × Count} count_ops (cond b ((x.0, counted x.1) ∷ filter (λ p. leb t p.0) (readings count_ops X)) (filter (λ p. leb t p.0) (readings count_ops X))) (λ p. p.1)).value
        ≡ stop (over {A = ℕ × ℕ} nat_ops (cond b ((x.0, x.1) ∷ filter (λ p. leb t p.0) (readings nat_ops X)) (filter (λ p. leb t p.0) (readings nat_ops X))) (λ p. p.1))
    by true ih = omega arith
    by false ih = ih

-- the stops of the parts of a sum make no difference
stop_sum : (a b u v : ℕ) → u ≡ stop a → v ≡ stop b → stop (u + v) ≡ stop (a + b)
stop_sum a b u v h k = omega arith

pub count_mean : (X : Table) (F : ℕ → Count) → (mean count_ops (readings count_ops X) F).value ≡ stop (mean nat_ops (readings nat_ops X) (λ t. (F t).value))
count_mean [] F = refl
count_mean (x ∷ X) F = stop_sum (x.1 * (F x.0).value) _ _ _ (stop_mul x.1 (F x.0).value) (count_mean X F)

pub table_total : (ps : List Pair) → total_of count_ops ps ≡ over count_ops (drawn_from ps) (λ x. counted x.1)
table_total [] = refl
table_total (p ∷ ps) = over_cons count_laws (λ r. counted r.weight) p ps ∙ ap (count_ops.sum (counted p.weight)) (table_total ps)

-- a table's total, which is at most 65,535
pub plain_total : (ps : List Pair) → total (drawn_from ps) ≤ 65535 → (total_of count_ops ps).value ≡ total (drawn_from ps)
plain_total ps h =
    ap (λ v. v.value) (table_total ps) ∙ count_total (drawn_from ps) ∙ stays (total (drawn_from ps)) h
  where
    stays : (n : ℕ) → n ≤ 65535 → stop n ≡ n
    stays n h = omega arith

pub tail_total : (X : Table) (t : ℕ) → tail nat_ops (readings nat_ops X) t ≤ total X
tail_total [] t = omega arith
tail_total (x ∷ X) t = by (leb t x.0) (tail_total X t)
  where
    by : (b : Bool) → tail nat_ops (readings nat_ops X) t ≤ total X
        → over {A = ℕ × ℕ} nat_ops (cond b ((x.0, x.1) ∷ filter (λ p. leb t p.0) (readings nat_ops X)) (filter (λ p. leb t p.0) (readings nat_ops X))) (λ p. p.1) ≤ x.1 + total X
    by true ih = omega arith
    by false ih = omega arith

-- a mean of values up to m
pub mean_most : (X : Table) (F : ℕ → ℕ) (m : ℕ) → ((t : ℕ) → F t ≤ m) → mean nat_ops (readings nat_ops X) F ≤ m * total X
mean_most [] F m h = omega arith
mean_most (x ∷ X) F m h =
    omega (arith, mean_most X F m h, mul-le-mul_left x.1 (h x.0), mul_comm x.1 m, mul-add m x.1 (total X))

-- WORSE IN COUNTS IS WORSE IN WHOLE NUMBERS
worse_plain : (X Y : Table) → total X ≤ 65535 → total Y ≤ 65535 → Worse count_ops count_least X Y → Worse nat_ops nat_least X Y
worse_plain X Y h k worse t lt = by _ _ _ _ (count_tail X t) (count_tail Y t) (tail_total X t) (tail_total Y t) (worse t lt)
  where
    by : (a b u v : ℕ) → u ≡ stop a → v ≡ stop b → a ≤ total X → b ≤ total Y → v ≤ u → b ≤ a
    by a b u v e d x y le = omega arith

abbrev SameTotal : Table → Table → Type 0
SameTotal X Y = over count_ops X (λ x. counted x.1) ≡ over count_ops Y (λ x. counted x.1)

same_plain : (X Y : Table) → total X ≤ 65535 → total Y ≤ 65535 → SameTotal X Y → total X ≡ total Y
same_plain X Y h k same = by _ _ (count_total X) (count_total Y) (ap (λ v. v.value) same)
  where
    by : (u v : ℕ) → u ≡ stop (total X) → v ≡ stop (total Y) → u ≡ v → total X ≡ total Y
    by u v e d s = omega arith

harder_plain : (ls ks : List Counted) → AllFit ls → AllFit ks → Harder count_ops count_least ls ks → Harder nat_ops nat_least ls ks
harder_plain [] [] fit fit' h = tt
harder_plain [] (k ∷ ks) fit fit' h = absurd h
harder_plain (l ∷ ls) [] fit fit' h = absurd h
harder_plain (l ∷ ls) (k ∷ ks) fit fit' h = (
  h.0,
  worse_plain (drawn_from l.pairs) (drawn_from k.pairs) fit.0.most fit'.0.most h.1,
  same_plain (drawn_from l.pairs) (drawn_from k.pairs) fit.0.most fit'.0.most h.2,
  harder_plain ls ks fit.1 fit'.1 h.3,
)

pub question_plain : (q r : Question) → Sound q → Sound r → WorseQuestion count_ops count_least q r → WorseQuestion nat_ops nat_least q r
question_plain q r sound sound' worse = record {
  same_deadline = worse.same_deadline;
  same_release = worse.same_release;
  opening_worse = worse_plain _ _ sound.opening_fits.most sound'.opening_fits.most worse.opening_worse;
  opening_total = same_plain _ _ sound.opening_fits.most sound'.opening_fits.most worse.opening_total;
  before_worse = harder_plain (upto q) (upto r) (upto_fit q sound) (upto_fit r sound') worse.before_worse;
  later_worse = harder_plain q.later r.later (later_fit q sound) (later_fit r sound') worse.later_worse;
}
