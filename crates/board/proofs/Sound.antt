-- The question of a job that stands in a lawful book is sound.
use Rattle.std.proofs.Common.{◌≡◌, ℕ, zero, suc, ◌+◌, ◌-◌, ◌≤◌, true, ◌&&◌, ltb, leb, List, [], ◌∷◌, ◌++◌, map, length, Some, None, Option, sym, refl, ap, subst, arith}
use Rattle.std.proofs.lemmas.List.{map-append}
use Rattle.std.proofs.lemmas.Bool.{cond_both, and_parts, leb-true}
use Rattle.theory.specs.Sums.{over}
use Rattle.theory.specs.Rounded.{nat_ops}
use Rattle.analysis.specs.declared.pair.Pair.{Pair}
use Rattle.scenarios.specs.Questions.{Counted, drawn_from}
use Rattle.scenarios.specs.Theorems.{Small, Fit, AllFit, InOrder, Sound}
use Rattle.board.specs.Pairs.{rising, weighted, weights, lawful}
use Rattle.board.specs.Model.{Entry, entry_lawful, all_lawful}
use Rattle.board.specs.Jobs.{Rule, Job, ahead, releases, ahead_at, ahead_from, ahead_in, counted_before, counted_later}
use Rattle.board.specs.Found.{Stands}
use Rattle.board.specs.Questions.{as_counted, question_over}
use Rattle.board.proofs.At.{lawful_at, ranges}
use Rattle.board.proofs.Reach.{in_order, all_before}
use Rattle.board.proofs.Walked.{rises_upto, rises_later_jobs}

weights_is : (ps : List Pair) → over nat_ops (drawn_from ps) (λ x. x.1) ≡ weights ps
weights_is [] = refl
weights_is (p ∷ ps) = ap (λ n. p.weight + n) (weights_is ps)

small_times : (low : ℕ) (ps : List Pair) → rising low ps ≡ true → Small ps
small_times low [] h = tt
small_times low (p ∷ ps) h =
    let a = and_parts (leb low p.time && leb p.time 255) (rising (p.time + 1) ps) h in
    let b = and_parts (leb low p.time) (leb p.time 255) a.0 in
    let le = leb-true p.time 255 b.1 in
    (omega arith, small_times (p.time + 1) ps a.1)

some_weight : (ps : List Pair) → 1 ≤ length ps → weighted ps ≡ true → 1 ≤ weights ps
some_weight [] h w = absurd (omega arith)
some_weight (p ∷ ps) h w = let le = leb-true 1 p.weight (and_parts (leb 1 p.weight) (weighted ps) w).0 in omega arith

pub lawful_fit : (ps : List Pair) → lawful ps ≡ true → Fit ps
lawful_fit ps h =
    let a = and_parts (leb 1 (length ps)) _ h in
    let b = and_parts (leb (length ps) 16) _ a.1 in
    let c = and_parts (rising 0 ps) _ b.1 in
    let d = and_parts (weighted ps) _ c.1 in
    let low : 1 ≤ weights ps = some_weight ps (leb-true 1 (length ps) a.0) d.0 in
    let high : weights ps ≤ 65535 = leb-true (weights ps) 65535 d.1 in
    let P : ℕ → Type 0 = λ n. 1 ≤ n in
    let Q : ℕ → Type 0 = λ n. n ≤ 65535 in
    record { small = small_times 0 ps c.0; some = subst P (sym (weights_is ps)) low; most = subst Q (sym (weights_is ps)) high }

entry_fit : (e : Entry) → entry_lawful e ≡ true → Fit e.pairs
entry_fit e h =
    let a = and_parts (leb 1 e.period && leb e.period 4096) _ h in
    let b = and_parts (ltb e.phase e.period) _ a.1 in
    lawful_fit e.pairs (and_parts (leb 1 e.deadline && leb e.deadline 254) (lawful e.pairs) b.1).1

fit_append : (xs ys : List Counted) → AllFit xs → AllFit ys → AllFit (xs ++ ys)
fit_append [] ys h g = g
fit_append (x ∷ xs) ys h g = (h.0, fit_append xs ys h.1 g)

module _ (rule : Rule) (j : Job) where
  abbrev Fits : List Job → Type 0
  Fits ks = AllFit (map (as_counted rule) ks)

  fits_append : (xs ys : List Job) → Fits xs → Fits ys → Fits (xs ++ ys)
  fits_append xs ys h g = subst AllFit (sym (map-append (as_counted rule) xs ys)) (fit_append (map (as_counted rule) xs) (map (as_counted rule) ys) h g)

  fits_at : (p : ℕ) (e : Entry) (t : ℕ) → entry_lawful e ≡ true → Fits (ahead_at rule j p (Some e) t)
  fits_at p e t ok =
      cond_both (releases e t && ahead rule (record { place = p; entry = e; release = t }) j) (record { place = p; entry = e; release = t } ∷ []) [] Fits
      (λ _. (entry_fit e ok, tt)) (λ _. tt)

  fits_from : (p : ℕ) (xs : List (Option Entry)) (t : ℕ) → all_lawful xs ≡ true → Fits (ahead_from rule j p xs t)
  fits_from p [] t ok = tt
  fits_from p (None ∷ xs) t ok = fits_from (p + 1) xs t ok
  fits_from p (Some e ∷ xs) t ok =
      let a = and_parts (entry_lawful e) (all_lawful xs) ok in
      fits_append (ahead_at rule j p (Some e) t) (ahead_from rule j (p + 1) xs t) (fits_at p e t a.0) (fits_from (p + 1) xs t a.1)

  fits_in : (ps : List (Option Entry)) (n t : ℕ) → all_lawful ps ≡ true → Fits (ahead_in rule ps j n t)
  unfolding ahead_in
  fits_in ps zero t ok = tt
  fits_in ps (suc n) t ok = fits_append (ahead_from rule j 0 ps t) (ahead_in rule ps j n (t + 1)) (fits_from 0 ps t ok) (fits_in ps n (t + 1) ok)

pub sound_question : (rule : Rule) (ps : List (Option Entry)) (opening : List Pair) (j : Job) → all_lawful ps ≡ true → lawful opening ≡ true → Stands ps j → Sound (question_over rule ps opening j)
sound_question rule ps opening j ok first s =
    let e = j.entry in
    let lawful_entry = lawful_at ps j.place e ok (sym s.at_place) in
    let r = ranges e lawful_entry in
    let a = j.release in
    record {
      deadline_small = r.deadline_high;
      first_in_order = subst (InOrder 0) (map-append (as_counted rule) (counted_before rule ps j) (j ∷ [])) (in_order rule 0 (a + 1) (counted_before rule ps j ++ (j ∷ [])) (rises_upto rule ps opening j));
      then_in_order = in_order rule (a + 1) (a + 1 + (e.deadline - 1)) (counted_later rule ps j) (rises_later_jobs rule ps opening j);
      in_reach = all_before rule (a + 1) (a + 1 + (e.deadline - 1)) (a + e.deadline) (counted_later rule ps j) (last r.deadline_low) (rises_later_jobs rule ps opening j);
      opening_fits = lawful_fit opening first;
      jobs_fit = fit_append (map (as_counted rule) (counted_before rule ps j)) _ (fits_in rule j ps (a + 1) 0 ok) (entry_fit e lawful_entry, fits_in rule j ps (e.deadline - 1) (a + 1) ok);
    }
  where
    last : 1 ≤ j.entry.deadline → j.release + 1 + (j.entry.deadline - 1) ≤ j.release + j.entry.deadline
    last h = omega arith
