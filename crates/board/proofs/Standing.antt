-- A job stands in a book where the test says so.
use Rattle.std.proofs.Common.{◌≡◌, ℕ, ◌+◌, ◌<◌, ◌≤◌, true, false, ◌&&◌, eqb, leb, List, [], ◌∷◌, length, get_or, Some, None, Option, sym, refl, ap, ◌∙◌, ⊎_elim, arith}
use Rattle.std.proofs.lemmas.List.{get_or_past}
use Rattle.std.proofs.lemmas.Bool.{and_parts, and_from, cases_lt, eqb-true, eq-eqb, leb-true, le-leb, both_ways}
use Rattle.analysis.specs.declared.pair.Pair.{Pair}
use Rattle.board.specs.declared.jobs.asked.Asked.{Asked}
use Rattle.board.specs.Model.{Entry, all_lawful}
use Rattle.board.specs.Places.{places, entry_of}
use Rattle.board.specs.Jobs.{Job, due, releases}
use Rattle.board.specs.Found.{job_of, Stands}
use Rattle.board.specs.Standing.{same_pairs, same_entry, holds, stands}
use Rattle.board.proofs.At.{not_none, ranges, ranges_at}
use Rattle.board.proofs.Records.{entries_lawful, entries_long}

same_pairs_self : (ps : List Pair) → same_pairs ps ps ≡ true
same_pairs_self [] = refl
same_pairs_self (p ∷ ps) = and_from _ _ (and_from _ _ (eq-eqb p.time p.time refl) (eq-eqb p.weight p.weight refl)) (same_pairs_self ps)

same_pairs_true : (ps qs : List Pair) → same_pairs ps qs ≡ true → ps ≡ qs
same_pairs_true [] [] h = refl
same_pairs_true [] (q ∷ qs) h = absurd (both_ways false refl h)
same_pairs_true (p ∷ ps) [] h = absurd (both_ways false refl h)
same_pairs_true (p ∷ ps) (q ∷ qs) h =
    let a = and_parts (eqb p.time q.time && eqb p.weight q.weight) (same_pairs ps qs) h in
    let b = and_parts (eqb p.time q.time) (eqb p.weight q.weight) a.0 in
    let made : ℕ → ℕ → Pair = λ t w. record { time = t; weight = w } in
    let head : p ≡ q = ap (λ t. made t p.weight) (eqb-true _ _ b.0) ∙ ap (made q.time) (eqb-true _ _ b.1) in
    ap (λ x. x ∷ ps) head ∙ ap (λ xs. q ∷ xs) (same_pairs_true ps qs a.1)

holds_self : (e : Entry) → same_entry e e ≡ true
holds_self e =
    and_from _ _ (and_from _ _ (eq-eqb e.period e.period refl) (eq-eqb e.phase e.phase refl))
    (and_from _ _ (eq-eqb e.deadline e.deadline refl) (same_pairs_self e.pairs))

same_entry_true : (e f : Entry) → same_entry e f ≡ true → e ≡ f
same_entry_true e f h =
    let a = and_parts (eqb e.period f.period && eqb e.phase f.phase) _ h in
    let b = and_parts (eqb e.period f.period) (eqb e.phase f.phase) a.0 in
    let c = and_parts (eqb e.deadline f.deadline) (same_pairs e.pairs f.pairs) a.1 in
    let made : ℕ → ℕ → ℕ → List Pair → Entry = λ p f d t. record { period = p; phase = f; deadline = d; pairs = t } in
    ap (λ p. made p e.phase e.deadline e.pairs) (eqb-true _ _ b.0)
    ∙ ap (λ x. made f.period x e.deadline e.pairs) (eqb-true _ _ b.1)
    ∙ ap (λ d. made f.period f.phase d e.pairs) (eqb-true _ _ c.0)
    ∙ ap (made f.period f.phase f.deadline) (same_pairs_true _ _ c.1)

holds_is : (x : Option Entry) (e : Entry) → holds x e ≡ true → x ≡ Some e
holds_is None e h = absurd (both_ways false refl h)
holds_is (Some f) e h = ap Some (same_entry_true f e h)

-- a place that holds an entry is one of the list
pub held_low : (ps : List (Option Entry)) (i : ℕ) (e : Entry) → get_or ps i None ≡ Some e → i < length ps
held_low ps i e is =
    ⊎_elim (λ (h : i < length ps). h)
    (λ (h : length ps ≤ i). absurd (not_none e (sym is ∙ get_or_past ps i None h)))
    (cases_lt i (length ps))

pub stands_true : (ps : List (Option Entry)) (j : Job) → Stands ps j → stands ps j ≡ true
stands_true ps j s = and_from _ _ (ap (λ x. holds x j.entry) s.at_place ∙ holds_self j.entry) (and_from _ _ s.released (le-leb (due j) 32768 s.soon))

pub stands_is : (ps : List (Option Entry)) (j : Job) → length ps ≡ 16 → all_lawful ps ≡ true → stands ps j ≡ true → Stands ps j
stands_is ps j long ok h =
    let a = and_parts (holds (get_or ps j.place None) j.entry) _ h in
    let b = and_parts (releases j.entry j.release) (leb (due j) 32768) a.1 in
    let is = holds_is (get_or ps j.place None) j.entry a.0 in
    let low = held_low ps j.place j.entry is in
    record {
      place_low = omega arith;
      at_place = is;
      released = b.0;
      soon = leb-true (due j) 32768 b.1;
      deadline_low = (ranges_at ps j.place j.entry ok (sym is)).deadline_low;
    }

-- a job that is asked about stands in its book
pub asked_stands : (a : Asked) → Stands (places a.entries) (job_of a.job)
asked_stands a = stands_is (places a.entries) (job_of a.job) (entries_long a.entries) (entries_lawful a.entries) a.sound

-- a job that is released before the deadline falls is released within 254 ticks of the release of the job that is asked about
pub asked_near : (a : Asked) (r : ℕ) → r < due (job_of a.job) → r < a.job.release + 255
asked_near a r soon =
    let high = (ranges (entry_of a.job.task) a.job.task.lawful).deadline_high in
    omega (arith, soon, high)
