-- The jobs of one task that a round releases.
use Rattle.std.proofs.Common.{◌≡◌, ℕ, zero, suc, ◌+◌, ◌-◌, ◌*◌, ◌/◌, ◌%◌, ◌<◌, ◌≤◌, true, false, eqb, ltb, List, [], ◌∷◌, get_or, Some, None, Err, Option, sym, refl, ap, ◌∙◌, subst, le_trans, mul-le-mul_right, mul_assoc, add-mul, mul-le-mul, one-mul, zero-mul, arith}
use Rattle.std.proofs.lemmas.Nat.Gcd.{dvd_of_mod-eq-zero}
use Rattle.std.proofs.Math.Nat.{div-mul_cancel}
use Rattle.std.proofs.lemmas.Bool.{and_parts, and_from, and_right, eqb-true, leb-true, le-leb, lt-leb, lt-ltb, cond-true, cond-false}
use Rattle.board.specs.Model.{Entry, Book, divided, hyperperiod, jobs, book_lawful, window}
use Rattle.board.specs.Jobs.{Rule, due, release_of}
use Rattle.book.specs.Asks.{within, round_jobs, job_at, all_within, task_of, ReleasedIn}
use Rattle.board.proofs.At.{ranges_at, not_none}
use Rattle.board.proofs.Least.{hyper_least}
use Rattle.book.proofs.Window.{limits}

-- each period divides a common multiple
divided_at : (ps : List (Option Entry)) (i h : ℕ) (e : Entry) → divided ps h ≡ true → get_or ps i None ≡ Some e → h % e.period ≡ 0
divided_at [] i h e ok is = absurd (not_none e (sym is))
divided_at (None ∷ ps) zero h e ok is = absurd (not_none e (sym is))
divided_at (Some x ∷ ps) zero h e ok is =
    let same : x ≡ e = cc in
    ap (λ y. h % y.period) (sym same) ∙ eqb-true (h % x.period) 0 (and_parts _ (divided ps h) ok).0
divided_at (None ∷ ps) (suc i) h e ok is = divided_at ps i h e ok is
divided_at (Some x ∷ ps) (suc i) h e ok is = divided_at ps i h e (and_parts (eqb (h % x.period) 0) (divided ps h) ok).1 is

-- the jobs of one task are among all jobs
jobs_at : (ps : List (Option Entry)) (i h : ℕ) (e : Entry) → get_or ps i None ≡ Some e → h / e.period ≤ jobs ps h
jobs_at [] i h e is = absurd (not_none e (sym is))
jobs_at (None ∷ ps) zero h e is = absurd (not_none e (sym is))
jobs_at (Some x ∷ ps) zero h e is =
    let same : x ≡ e = cc in
    let P : Entry → Type 0 = λ y. h / y.period ≤ h / x.period + jobs ps h in
    subst P same (omega arith)
jobs_at (None ∷ ps) (suc i) h e is = jobs_at ps i h e is
jobs_at (Some x ∷ ps) (suc i) h e is = let r = jobs_at ps i h e is in omega arith

pub record InRound (b : Book) (e : Entry) : Type 0 where
  pub low : 1 ≤ round_jobs b e
  pub high : round_jobs b e ≤ 64
  pub fills : round_jobs b e * e.period ≡ hyperperiod b.places

some_parts : (h n p : ℕ) → 1 ≤ h → n * p ≡ h → 1 ≤ n
some_parts h zero p pos e = let z = zero-mul p in omega arith
some_parts h (suc n) p pos e = omega arith

pub in_round : (b : Book) (place : ℕ) (e : Entry) → book_lawful b.places b.rounds ≡ true → get_or b.places place None ≡ Some e → InRound b e
in_round b place e ok is =
    let least = hyper_least b.places b.rounds ok in
    let h = hyperperiod b.places in
    let fills = div-mul_cancel e.period (dvd_of_mod-eq-zero e.period (divided_at b.places place h e least.common is)) in
    record {
      low = some_parts h (h / e.period) e.period least.positive fills;
      high = le_trans (jobs_at b.places place h e is) (limits b.places b.rounds ok).jobs_high;
      fills = fills;
    }

-- the number of the last job of a round is small
pub last_small : (round n rounds : ℕ) → round < rounds → rounds ≤ 8 → n ≤ 64 → round * n + n - 1 ≤ 512
last_small round n rounds l r h =
    let m : round * n ≤ 7 * 64 = mul-le-mul {n₁ = round} {m₁ = n} {n₂ = 7} {m₂ = 64} (omega arith) h in
    omega arith

-- the number of jobs in a round, from the hyperperiod h that the code has computed
pub record Sized (b : Book) (e : Entry) (h : ℕ) : Type 0 where
  pub jobs_is : h / e.period ≡ round_jobs b e
  pub some : 1 ≤ h / e.period
  pub few : h / e.period ≤ 64

pub sized : (b : Book) (place : ℕ) (e : Entry) (h : ℕ) → book_lawful b.places b.rounds ≡ true → get_or b.places place None ≡ Some e → h ≡ hyperperiod b.places → Sized b e h
sized b place e h ok is same =
    let i = in_round b place e ok is in
    subst (Sized b e) (sym same) (record { jobs_is = refl; some = i.low; few = i.high })

-- what is within the window is so for the jobs before
module _ (b : Book) (place : ℕ) (e : Entry) where
  within_before : (i k : ℕ) → i ≤ k → within b (job_at place e k) ≡ true → within b (job_at place e i) ≡ true
  within_before i k h ok =
      let m : i * e.period ≤ k * e.period = mul-le-mul_right e.period h in
      let late : due (job_at place e k) ≤ window b = leb-true (due (job_at place e k)) (window b) ok in
      le-leb (due (job_at place e i)) (window b) (le_trans (sooner e.phase (i * e.period) (k * e.period) e.deadline m) late)
    where
      sooner : (f x y d : ℕ) → x ≤ y → f + x + d ≤ f + y + d
      sooner f x y d l = omega arith

  within_all : (from m last : ℕ) → from + m ≤ last + 1 → within b (job_at place e last) ≡ true → all_within b place e from m ≡ true
  within_all from zero last h ok = refl
  within_all from (suc m) last h ok =
      and_from (all_within b place e from m) (within b (job_at place e (from + m))) (within_all from m last (omega arith) ok)
      (within_before (from + m) last (omega arith) ok)

  -- the last job decides for all
  pub last_inside : (from n : ℕ) → 1 ≤ n → within b (job_at place e (from + n - 1)) ≡ true → all_within b place e from n ≡ true
  last_inside from n pos ok = within_all from n (from + n - 1) (omega arith) ok

  pub last_outside : (from n : ℕ) → 1 ≤ n → within b (job_at place e (from + n - 1)) ≡ false → all_within b place e from n ≡ false
  last_outside from zero pos miss = absurd (omega arith)
  last_outside from (suc n) pos miss =
      let same : from + suc n - 1 ≡ from + n = omega arith in
      and_right (all_within b place e from n) _ (ap (λ i. within b (job_at place e i)) (sym same) ∙ miss)

  pub each_inside : (from n k : ℕ) → from ≤ k → k < from + n → all_within b place e from n ≡ true → within b (job_at place e k) ≡ true
  each_inside from zero k l h ok = absurd (omega arith)
  each_inside from (suc n) k l h ok =
      within_before k (from + n) (omega arith) (and_parts (all_within b place e from n) (within b (job_at place e (from + n))) ok).1

-- THE JOBS OF A ROUND
below_block : (p f i m : ℕ) → f < p → i < m → f + i * p < m * p
below_block p f i m l h =
    let a : (i + 1) * p ≤ m * p = mul-le-mul_right {m = i + 1} {n = m} p (omega arith) in
    let c : (i + 1) * p ≡ i * p + 1 * p = add-mul i 1 p in
    let d = one-mul p in
    omega arith

above_block : (p f i m : ℕ) → m ≤ i → m * p ≤ f + i * p
above_block p f i m h =
    let a : m * p ≤ i * p = mul-le-mul_right p h in
    omega arith

pub released_in : (b : Book) (place : ℕ) (e : Entry) (round : ℕ) → book_lawful b.places b.rounds ≡ true → get_or b.places place None ≡ Some e → ReleasedIn b e round (round * round_jobs b e) (round_jobs b e)
released_in b place e round ok is =
    let n = round_jobs b e in
    let p = e.period in
    let h = hyperperiod b.places in
    let i = in_round b place e ok is in
    let phase = (ranges_at b.places place e (limits b.places b.rounds ok).entries_lawful (sym is)).phase_below in
    let start : round * n * p ≡ round * h = mul_assoc round n p ∙ ap (λ x. round * x) i.fills in
    let end : (round * n + n) * p ≡ (round + 1) * h =
    add-mul (round * n) n p ∙ ap (λ x. x + n * p) start ∙ ap (λ x. round * h + x) (i.fills ∙ sym (one-mul h)) ∙ sym (add-mul round 1 h) in
    let below : ℕ → ℕ → Type 0 = λ x y. x < y in
    let above : ℕ → ℕ → Type 0 = λ x y. y ≤ x in
    record {
      inside = λ k l u. (subst (above (release_of e k)) start (above_block p e.phase k (round * n) l), subst (below (release_of e k)) end (below_block p e.phase k (round * n + n) phase u));
      before = λ k l. subst (below (release_of e k)) start (below_block p e.phase k (round * n) phase l);
      after = λ k l. subst (above (release_of e k)) end (above_block p e.phase k (round * n + n) l);
    }

-- THE REFUSAL OF A ROUND
pub task_outside : (b : Book) (place : ℕ) (e : Entry) (round : ℕ) (rule : Rule) → get_or b.places place None ≡ Some e → round < b.rounds → all_within b place e (round * round_jobs b e) (round_jobs b e) ≡ false → task_of rule b place round (get_or b.places place None) ≡ Err 12
task_outside b place e round rule is lt miss =
    ap (task_of rule b place round) is
    ∙ cond-true (ltb round b.rounds) _ (Err 11) (lt-ltb round b.rounds lt)
    ∙ cond-false (all_within b place e (round * round_jobs b e) (round_jobs b e)) _ (Err 12) miss

-- the test of the last job, as the code makes it, with the number of jobs m, the last release r and the end of the window w
module _ (b : Book) (place : ℕ) (e : Entry) (round m r w : ℕ) (jobs_is : m ≡ round_jobs b e) (some : 1 ≤ m) (last : r ≡ release_of e (round * m + m - 1)) (end : w ≡ window b) where
  pub round_inside : r + e.deadline ≤ w → all_within b place e (round * round_jobs b e) (round_jobs b e) ≡ true
  round_inside h =
      let P : ℕ → Type 0 = λ n. all_within b place e (round * n) n ≡ true in
      let le : due (job_at place e (round * m + m - 1)) ≤ window b = rw (← last, ← end) h in
      subst P jobs_is (last_inside b place e (round * m) m some (le-leb (due (job_at place e (round * m + m - 1))) (window b) le))

  pub round_outside : w < r + e.deadline → all_within b place e (round * round_jobs b e) (round_jobs b e) ≡ false
  round_outside h =
      let P : ℕ → Type 0 = λ n. all_within b place e (round * n) n ≡ false in
      let lt : window b < due (job_at place e (round * m + m - 1)) = rw (← last, ← end) h in
      subst P jobs_is (last_outside b place e (round * m) m some (lt-leb (due (job_at place e (round * m + m - 1))) (window b) lt))
