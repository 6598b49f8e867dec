-- Slower tables of equal totals at every place make a worse question of every job.
use Rattle.std.proofs.Common.{◌≡◌, ℕ, zero, suc, ◌+◌, ◌-◌, true, false, cond, ◌&&◌, List, [], ◌∷◌, ◌++◌, map, get_or, set, Some, None, Option, sym, refl, subst, subst₂}
use Rattle.std.proofs.lemmas.List.{map-append}
use Rattle.theory.specs.Semiring.{Ops}
use Rattle.scenarios.specs.Questions.{Counted}
use Rattle.scenarios.specs.Theorems.{Harder, WorseQuestion}
use Rattle.board.specs.Jobs.{Rule, Job, releases, ahead, ahead_at, ahead_from, ahead_in}
use Rattle.board.specs.Questions.{as_counted, question_of}
use Rattle.board.proofs.At.{not_none}
use Rattle.guarantees.specs.Runs.{Side, one, other}
use Rattle.guarantees.specs.Law.{Slower}
use Rattle.guarantees.proofs.Twins.{Two, Twin, entry_for, places_for, book_for}

module _ {K : Type 0} (ops : Ops K) (least : K → K → Type 0) where
  abbrev pub SlowPlaces : List (Option Two) → Type 0
  SlowPlaces [] = Unit {0}
  SlowPlaces (None ∷ zs) = SlowPlaces zs
  SlowPlaces (Some z ∷ zs) = Slower ops least z.tables.first z.tables.second × SlowPlaces zs

  pub slow_put : (zs : List (Option Two)) (i : ℕ) (z : Two) → Slower ops least z.tables.first z.tables.second → SlowPlaces zs → SlowPlaces (set zs i (Some z))
  slow_put [] i z h all = tt
  slow_put (None ∷ zs) zero z h all = (h, all)
  slow_put (Some y ∷ zs) zero z h all = (h, all.1)
  slow_put (None ∷ zs) (suc i) z h all = slow_put zs i z h all
  slow_put (Some y ∷ zs) (suc i) z h all = (all.0, slow_put zs i z h all.1)

  pub slow_clear : (zs : List (Option Two)) (i : ℕ) → SlowPlaces zs → SlowPlaces (set zs i None)
  slow_clear [] i all = tt
  slow_clear (None ∷ zs) zero all = all
  slow_clear (Some y ∷ zs) zero all = all.1
  slow_clear (None ∷ zs) (suc i) all = slow_clear zs i all
  slow_clear (Some y ∷ zs) (suc i) all = (all.0, slow_clear zs i all.1)

  pub slow_at : (zs : List (Option Two)) (i : ℕ) (z : Two) → get_or zs i None ≡ Some z → SlowPlaces zs → Slower ops least z.tables.first z.tables.second
  slow_at [] i z is all = absurd (not_none z (sym is))
  slow_at (None ∷ zs) zero z is all = absurd (not_none z (sym is))
  slow_at (Some y ∷ zs) zero z is all = let same : y ≡ z = cc in subst (λ (x : Two). Slower ops least x.tables.first x.tables.second) same all.0
  slow_at (None ∷ zs) (suc i) z is all = slow_at zs i z is all
  slow_at (Some y ∷ zs) (suc i) z is all = slow_at zs i z is all.1

  harder_append : (ls ks ls' ks' : List Counted) → Harder ops least ls ks → Harder ops least ls' ks' → Harder ops least (ls ++ ls') (ks ++ ks')
  harder_append [] [] ls' ks' h g = g
  harder_append [] (k ∷ ks) ls' ks' h g = absurd h
  harder_append (l ∷ ls) [] ls' ks' h g = absurd h
  harder_append (l ∷ ls) (k ∷ ks) ls' ks' h g = (h.0, h.1, h.2, harder_append ls ks ls' ks' h.3 g)

  module _ (rule : Rule) (place : ℕ) (z : Two) (release : ℕ) where
    -- the asked job in one of the books
    abbrev pub job_for : Side → Job
    job_for s = record { place = place; entry = entry_for s z; release = release }

    abbrev HarderJobs : List Job → List Job → Type 0
    HarderJobs ls ks = Harder ops least (map (as_counted rule) ls) (map (as_counted rule) ks)

    jobs_append : (ls ks ls' ks' : List Job) → HarderJobs ls ks → HarderJobs ls' ks' → HarderJobs (ls ++ ls') (ks ++ ks')
    jobs_append ls ks ls' ks' h g =
        subst₂ (Harder ops least) (sym (map-append (as_counted rule) ls ls')) (sym (map-append (as_counted rule) ks ks'))
        (harder_append (map (as_counted rule) ls) (map (as_counted rule) ks) (map (as_counted rule) ls') (map (as_counted rule) ks') h g)

    harder_at : (p : ℕ) (y : Two) (t : ℕ) → Slower ops least y.tables.first y.tables.second
        → HarderJobs (ahead_at rule (job_for other) p (Some (entry_for other y)) t) (ahead_at rule (job_for one) p (Some (entry_for one y)) t)
    harder_at p y t h =
        let e = entry_for one y in
        let f = entry_for other y in
        elim (releases e t && ahead rule (record { place = p; entry = e; release = t }) (job_for one))
        as (λ b. HarderJobs (cond b (record { place = p; entry = f; release = t } ∷ []) []) (cond b (record { place = p; entry = e; release = t } ∷ []) []))
        [ true ↦ (refl, h.worse, h.equal_total, tt) | false ↦ tt ]

    -- the jobs of the places ahead at a tick, and in the ticks from one on
    abbrev from_for : Side → ℕ → List (Option Two) → ℕ → List Job
    from_for s p zs t = ahead_from rule (job_for s) p (places_for s zs) t

    abbrev in_for : Side → List (Option Two) → ℕ → ℕ → List Job
    in_for s zs n t = ahead_in rule (places_for s zs) (job_for s) n t

    harder_from : (p : ℕ) (zs : List (Option Two)) (t : ℕ) → SlowPlaces zs → HarderJobs (from_for other p zs t) (from_for one p zs t)
    harder_from p [] t all = tt
    harder_from p (None ∷ zs) t all = harder_from (p + 1) zs t all
    harder_from p (Some y ∷ zs) t all =
        jobs_append (ahead_at rule (job_for other) p (Some (entry_for other y)) t) (ahead_at rule (job_for one) p (Some (entry_for one y)) t) (from_for other (p + 1) zs t) (from_for one (p + 1) zs t)
        (harder_at p y t all.0) (harder_from (p + 1) zs t all.1)

    harder_in : (zs : List (Option Two)) (n t : ℕ) → SlowPlaces zs → HarderJobs (in_for other zs n t) (in_for one zs n t)
    unfolding ahead_in
    harder_in zs zero t all = tt
    harder_in zs (suc n) t all =
        jobs_append (from_for other 0 zs t) (from_for one 0 zs t) (in_for other zs n (t + 1)) (in_for one zs n (t + 1)) (harder_from 0 zs t all) (harder_in zs n (t + 1) all)

    pub worse_question : (w : Twin) → SlowPlaces w.places → Slower ops least w.opening.first w.opening.second → Slower ops least z.tables.first z.tables.second
        → WorseQuestion ops least (question_of rule (book_for other w) (job_for other)) (question_of rule (book_for one w) (job_for one))
    worse_question w all first own = record {
      same_deadline = refl;
      same_release = refl;
      opening_worse = first.worse;
      opening_total = first.equal_total;
      before_worse = harder_append (map (as_counted rule) (in_for other w.places (release + 1) 0)) (map (as_counted rule) (in_for one w.places (release + 1) 0)) (as_counted rule (job_for other) ∷ []) (as_counted rule (job_for one) ∷ []) (harder_in w.places (release + 1) 0 all) (refl, own.worse, own.equal_total, tt);
      later_worse = harder_in w.places (z.deadline - 1) (release + 1) all;
    }
