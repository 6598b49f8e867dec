-- What a plan says of the task at a place, as its questions read it.
use Rattle.std.proofs.Common.{◌≡◌, ℕ, ◌/◌, suc, refl, cond, Ok, Err, Result, ◌+◌, ◌-◌, ◌*◌, ◌<◌, ◌≤◌, true, length, get_or, Some, None, sym, ap, ◌∙◌, subst, arith}
use Rattle.std.proofs.lemmas.Bool.{and_from, leb-true, le-leb, cond-true}
use Rattle.board.specs.declared.tasks.Task.{Task}
use Rattle.book.specs.declared.drafts.plans.Plan.{Plan}
use Rattle.book.specs.declared.batches.Batch.{Batch}
use Rattle.book.specs.Drafts.{plan_book}
use Rattle.board.specs.Model.{Entry, Book, hyperperiod, window}
use Rattle.scenarios.specs.Questions.{Question}
use Rattle.scenarios.specs.Walks.{rounded_late as late_of_question}
use Rattle.board.specs.Jobs.{Rule, Job, due, release_of}
use Rattle.board.specs.Questions.{question_of}
use Rattle.board.specs.Standing.{stands}
use Rattle.book.specs.Batches.{IsBatch, Ready}
use Rattle.board.specs.Places.{entry_of}
use Rattle.book.specs.Asks.{long, rounded_of, rounded_late, task_of, ReleasedIn, round_jobs, job_at, late_sum}
use Rattle.board.proofs.Records.{entries_lawful, entries_long}
use Rattle.board.proofs.At.{Ranges, ranges_at}
use Rattle.board.proofs.Standing.{stands_true}
use Rattle.book.proofs.Asked.{stands_in}
use Rattle.book.proofs.Window.{window_high}
use Rattle.book.proofs.Rounds.{Sized, sized, released_in, each_inside, task_outside, round_inside, round_outside}

pub plan_long : (p : Plan) → length (plan_book p).places ≡ 16
plan_long p = entries_long p.draft.entries

module _ (p : Plan) (place : ℕ) (e : Entry) (is : get_or (plan_book p).places place None ≡ Some e) where
  pub plan_ranges : Ranges e
  plan_ranges = ranges_at (plan_book p).places place e (entries_lawful p.draft.entries) (sym is)

  -- job k with its release r stands in the book
  pub plan_stands : (k r : ℕ) → r ≡ release_of e k → r + e.deadline ≤ 32768 → stands (plan_book p).places (record { place = place; entry = e; release = r }) ≡ true
  plan_stands k r same soon =
      stands_true (plan_book p).places (record { place = place; entry = e; release = r })
      (stands_in (plan_book p).places place k r e (plan_long p) is same soon plan_ranges.deadline_low)

  pub plan_released : (round : ℕ) → ReleasedIn (plan_book p) e round (round * round_jobs (plan_book p) e) (round_jobs (plan_book p) e)
  plan_released round = released_in (plan_book p) place e round p.draft.sound is

-- two sheets that are long enough
pub long_told : {X : Type 0} (m n : ℕ) (x : Result X ℕ) → 257 ≤ m → 257 ≤ n → x ≡ cond (long m n) x (Err 10)
long_told m n x lm ln = sym (cond-true (long m n) x (Err 10) (and_from _ _ (le-leb 257 m lm) (le-leb 257 n ln)))

-- the late weight of the job that a question finds
pub late_told : (rule : Rule) (b : Book) (x : Result Job ℕ) (j : Job) (q : Question) → Ok j ≡ x → q ≡ question_of rule b j
    → (m n late : ℕ) → late ≡ late_of_question q → 257 ≤ m → 257 ≤ n → Ok late ≡ cond (long m n) (rounded_of rule b x) (Err 10)
unfolding rounded_late
late_told rule b x j q found puts m n late is lm ln =
    ap Ok (is ∙ ap late_of_question puts) ∙ ap (rounded_of rule b) found ∙ long_told m n (rounded_of rule b x) lm ln

-- one more job of a round
pub late_more : (rule : Rule) (b : Book) (place : ℕ) (e : Entry) (from k late one : ℕ) → from ≤ k → late ≡ late_sum rule b place e from (k - from) → one ≡ rounded_late rule b (job_at place e k) → late + one ≡ late_sum rule b place e from (k + 1 - from)
late_more rule b place e from k late one le sum is =
    let next : k + 1 - from ≡ suc (k - from) = omega arith in
    let at : from + (k - from) ≡ k = omega arith in
    rw (next, at, sum, is)

-- a job of a ready batch stands in the book
pub ready_stands : (p : Plan) (x : Batch) (k r : ℕ) → Ready (plan_book p) x → x.first ≤ k → k < x.first + x.jobs → r ≡ release_of (entry_of x.task) k → stands (plan_book p).places (record { place = x.place; entry = entry_of x.task; release = r }) ≡ true
ready_stands p x k r ready from to same =
    let b = plan_book p in
    let e = entry_of x.task in
    let inside : due (job_at x.place e k) ≤ window b = leb-true (due (job_at x.place e k)) (window b) (each_inside b x.place e x.first x.jobs k from to ready.inside) in
    plan_stands p x.place e ready.held k r same (omega (arith, window_high b.places b.rounds p.draft.sound))

-- A ROUND OF THE TASK AT A PLACE, with the hyperperiod h, the release r of the last job and the end w of the window that the code has computed
module _ (p : Plan) (place round h : ℕ) (t : Task) (is : get_or (plan_book p).places place None ≡ Some (entry_of t)) (same : h ≡ hyperperiod (plan_book p).places) where
  pub round_sized : Sized (plan_book p) (entry_of t) h
  round_sized = sized (plan_book p) place (entry_of t) h p.draft.sound is same

  module _ (r w : ℕ) (last : r ≡ release_of (entry_of t) (round * (h / t.period) + h / t.period - 1)) (end : w ≡ window (plan_book p)) (low : round < p.draft.rounds) where
    pub batch_late : w < r + t.deadline → (rule : Rule) → task_of rule (plan_book p) place round (get_or (plan_book p).places place None) ≡ Err 12
    batch_late late rule =
        let s = round_sized in
        task_outside (plan_book p) place (entry_of t) round rule is low (round_outside (plan_book p) place (entry_of t) round (h / t.period) r w s.jobs_is s.some last end late)

    pub batch_is : r + t.deadline ≤ w → IsBatch (plan_book p) place round (record { place = place; task = t; first = round * (h / t.period); jobs = h / t.period })
    batch_is soon =
        let s = round_sized in
        let P : ℕ → Type 0 = λ n. (1 ≤ n) × (n ≤ 64) in
        let few = subst P s.jobs_is (s.some, s.few) in
        record {
          place_is = refl;
          at_place = is;
          round_low = low;
          jobs_is = s.jobs_is;
          first_is = ap (λ n. round * n) s.jobs_is;
          inside = round_inside (plan_book p) place (entry_of t) round (h / t.period) r w s.jobs_is s.some last end soon;
          jobs_low = few.0;
          jobs_high = few.1;
        }

pub batch_covers : (p : Plan) (place round : ℕ) (x : Batch) → IsBatch (plan_book p) place round x → (e : Entry) → get_or (plan_book p).places place None ≡ Some e → ReleasedIn (plan_book p) e round (round * x.jobs) x.jobs
batch_covers p place round x is e at =
    let b = plan_book p in
    let held = is.at_place in
    let same : entry_of x.task ≡ e = cc in
    let n : round_jobs b e ≡ x.jobs = ap (round_jobs b) (sym same) ∙ sym is.jobs_is in
    let P : ℕ → Type 0 = λ m. ReleasedIn b e round (round * m) m in
    subst P n (plan_released p place e at round)
