-- The walk job by job is the walk of the question: up to the job's release, and then over the later jobs.
use Rattle.std.proofs.Common.{◌≡◌, ℕ, ◌+◌, ◌-◌, ◌<◌, ◌≤◌, true, false, leb, List, [], ◌∷◌, ◌++◌, map, Option, sym, refl, ap, ◌∙◌, subst, arith}
use Rattle.std.proofs.lemmas.List.{map-append, append_assoc}
use Rattle.std.proofs.lemmas.Bool.{cond-true, cond-false, le-leb, lt-leb}
use Rattle.analysis.specs.declared.pair.Pair.{Pair}
use Rattle.kinds.specs.Counts.{count_ops, counted as count_of}
use Rattle.analysis.specs.Cells.{tail, passed, added}
use Rattle.scenarios.specs.Questions.{upto}
use Rattle.theory.specs.Semiring.{Ops}
use Rattle.scenarios.specs.Walks as scenario
use Rattle.scenarios.specs.Walks.{Settling}
use Rattle.board.specs.Model.{Entry}
use Rattle.board.specs.Jobs.{Rule, Job, due, counted, counted_before, counted_later}
use Rattle.board.specs.Walk.{Walk, begun, stepped, walked, walked_sheet, late_over}
use Rattle.board.specs.Questions.{as_counted, question_over}
use Rattle.board.proofs.Reach.{Rises, rises_in, rises_join}

module _ {K : Type 0} (ops : Ops K) (settle : Settling K) where
  -- one counted job, and what is done to the sheet after its table is added
  abbrev next : ℕ → Walk K → Job → Walk K
  next a w k = record { last = (stepped ops a w k).last; sheet = settle k.entry.pairs (stepped ops a w k).sheet }

  walked_append : (a : ℕ) (w : Walk K) (xs ys : List Job) → walked ops settle a w (xs ++ ys) ≡ walked ops settle a (walked ops settle a w xs) ys
  walked_append a w [] ys = refl
  walked_append a w (x ∷ xs) ys = walked_append a (next a w x) xs ys

  -- up to the release
  first_part : (rule : Rule) (a low : ℕ) (w : Walk K) (ks : List Job) → Rises low (a + 1) ks → (walked ops settle a w ks).sheet ≡ scenario.walked_upto ops settle w.last w.sheet (map (as_counted rule) ks)
  first_part rule a low w [] h = refl
  first_part rule a low w (k ∷ ks) h =
      let early : leb k.release a ≡ true = le-leb k.release a (omega (arith, h.1)) in
      let to : Walk K = record { last = k.release; sheet = added ops 0 (passed ops (k.release - w.last) w.sheet) k.entry.pairs } in
      let done : Walk K → Walk K = λ v. record { last = v.last; sheet = settle k.entry.pairs v.sheet } in
      ap (λ v. (walked ops settle a (done v) ks).sheet) (cond-true (leb k.release a) to _ early) ∙ first_part rule a k.release (done to) ks h.2

  -- after it
  second_part : (rule : Rule) (a low high : ℕ) (w : Walk K) (ks : List Job) → a < low → Rises low high ks → (walked ops settle a w ks).sheet ≡ scenario.walked_later ops settle a w.sheet (map (as_counted rule) ks)
  second_part rule a low high w [] lt h = refl
  second_part rule a low high w (k ∷ ks) lt h =
      let late : leb k.release a ≡ false = lt-leb k.release a (omega (arith, h.0)) in
      let to : Walk K = record { last = w.last; sheet = added ops (k.release - a + 1) w.sheet k.entry.pairs } in
      let done : Walk K → Walk K = λ v. record { last = v.last; sheet = settle k.entry.pairs v.sheet } in
      ap (λ v. (walked ops settle a (done v) ks).sheet) (cond-false (leb k.release a) _ to late) ∙ second_part rule a k.release high (done to) ks (omega (arith, h.0)) h.2

module _ (rule : Rule) (ps : List (Option Entry)) (opening : List Pair) (j : Job) where
  upto_list : List Job
  upto_list = counted_before rule ps j ++ (j ∷ [])

  pub rises_upto : Rises 0 (j.release + 1) (counted_before rule ps j ++ (j ∷ []))
  rises_upto =
      let P : ℕ → Type 0 = λ h. Rises 0 h (counted_before rule ps j) in
      let e : 0 + (j.release + 1) ≡ j.release + 1 = omega arith in
      ends (counted_before rule ps j) 0 (subst P e (rises_in rule j ps (j.release + 1) 0)) (omega arith)
    where
      ends : (ks : List Job) (low : ℕ) → Rises low (j.release + 1) ks → low ≤ j.release → Rises low (j.release + 1) (ks ++ (j ∷ []))
      ends [] low h le = (le, omega arith, tt)
      ends (k ∷ ks) low h le = (h.0, h.1, ends ks k.release h.2 (omega (arith, h.1)))

  pub rises_later_jobs : Rises (j.release + 1) (j.release + 1 + (j.entry.deadline - 1)) (counted_later rule ps j)
  rises_later_jobs = rises_in rule j ps (j.entry.deadline - 1) (j.release + 1)

  -- all counted jobs are released one after another, before the job is due
  pub rises_counted : 1 ≤ j.entry.deadline → Rises 0 (due j) (counted rule ps j)
  unfolding counted
  rises_counted pos =
      let high : j.release + 1 + (j.entry.deadline - 1) ≡ due j = omega arith in
      let P : ℕ → Type 0 = λ h. Rises 0 h (counted_before rule ps j ++ (j ∷ counted_later rule ps j)) in
      let Q : List Job → Type 0 = λ ks. Rises 0 (j.release + 1 + (j.entry.deadline - 1)) ks in
      subst P high (subst Q (append_assoc (counted_before rule ps j) (j ∷ []) (counted_later rule ps j))
      (rises_join 0 (j.release + 1) (j.release + 1 + (j.entry.deadline - 1)) (counted_before rule ps j ++ (j ∷ [])) (counted_later rule ps j) (omega arith) (omega arith) rises_upto rises_later_jobs))

  upto_same : map (as_counted rule) (counted_before rule ps j ++ (j ∷ [])) ≡ upto (question_over rule ps opening j)
  upto_same = map-append (as_counted rule) (counted_before rule ps j) (j ∷ [])

  split : counted rule ps j ≡ (counted_before rule ps j ++ (j ∷ [])) ++ counted_later rule ps j
  unfolding counted
  split = sym (append_assoc (counted_before rule ps j) (j ∷ []) (counted_later rule ps j))

  pub sheet_same : {K : Type 0} (ops : Ops K) (settle : Settling K) (x : K) → walked_sheet ops settle x rule ps opening j ≡ scenario.walked ops settle x (question_over rule ps opening j)
  unfolding begun scenario.walked
  sheet_same ops settle x =
      let a = j.release in
      let start = begun ops settle x opening in
      let mid = walked ops settle a start (counted_before rule ps j ++ (j ∷ [])) in
      ap (λ ks. (walked ops settle a start ks).sheet) split
      ∙ ap (λ v. v.sheet) (walked_append ops settle a start (counted_before rule ps j ++ (j ∷ [])) (counted_later rule ps j))
      ∙ second_part ops settle rule a (a + 1) (a + 1 + (j.entry.deadline - 1)) mid (counted_later rule ps j) (omega arith) rises_later_jobs
      ∙ ap (λ f. scenario.walked_later ops settle a f (map (as_counted rule) (counted_later rule ps j)))
      (first_part ops settle rule a 0 start (counted_before rule ps j ++ (j ∷ [])) rises_upto
      ∙ ap (scenario.walked_upto ops settle 0 start.sheet) upto_same)

  pub late_same : late_over rule ps opening j ≡ scenario.rounded_late (question_over rule ps opening j)
  unfolding scenario.rounded_late
  late_same = ap (λ f. (tail count_ops f (j.entry.deadline + 1)).value) (sheet_same count_ops scenario.settled (count_of 1048576))
