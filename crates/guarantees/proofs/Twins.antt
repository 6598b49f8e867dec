-- Two books whose entries differ in their tables alone, and what they therefore share.
use Rattle.std.proofs.Common.{◌≡◌, ℕ, zero, suc, ◌+◌, ◌*◌, ◌/◌, ◌%◌, cond, ◌&&◌, eqb, leb, List, [], ◌∷◌, map, get_or, Some, None, Option, sym, refl, ap, ◌∙◌}
use Rattle.board.specs.Model.{Entry, Book, divided, first_divided, hyperperiod, window}
use Rattle.book.specs.Moves.{filled}
use Rattle.book.specs.Asks.{within, job_at, all_within, round_jobs}
use Rattle.guarantees.specs.Runs.{Tables, Side, one, other, Books, entry}

-- an entry with a table for each book
pub record Two : Type 0 where
  pub period : ℕ
  pub phase : ℕ
  pub deadline : ℕ
  pub tables : Tables

pub record Twin : Type 0 where
  pub places : List (Option Two)
  pub opening : Tables
  pub rounds : ℕ

abbrev pub entry_for : Side → Two → Entry
entry_for s z = entry z.period z.phase z.deadline (s z.tables)

abbrev pub place_for : Side → Option Two → Option Entry
place_for s None = None
place_for s (Some z) = Some (entry_for s z)

abbrev pub places_for : Side → List (Option Two) → List (Option Entry)
places_for s zs = map (place_for s) zs

abbrev pub book_for : Side → Twin → Book
book_for s w = record { places = places_for s w.places; opening = s w.opening; rounds = w.rounds }

abbrev pub books : Twin → List Tables → Books
books w ts = record { first = book_for one w; second = book_for other w; taken = ts }

pub at_place : (s : Side) (zs : List (Option Two)) (i : ℕ) → get_or (places_for s zs) i None ≡ place_for s (get_or zs i None)
at_place s [] i = refl
at_place s (z ∷ zs) zero = refl
at_place s (z ∷ zs) (suc i) = at_place s zs i

filled_for : (s : Side) (x : Option Two) → filled (place_for s x) ≡ filled x
filled_for s None = refl
filled_for s (Some z) = refl

module _ (s r : Side) where
  divided_same : (zs : List (Option Two)) (h : ℕ) → divided (places_for s zs) h ≡ divided (places_for r zs) h
  divided_same [] h = refl
  divided_same (None ∷ zs) h = divided_same zs h
  divided_same (Some z ∷ zs) h = ap (λ b. eqb (h % z.period) 0 && b) (divided_same zs h)

  first_same : (zs : List (Option Two)) (n h : ℕ) → first_divided (places_for s zs) n h ≡ first_divided (places_for r zs) n h
  unfolding first_divided
  first_same zs zero h = refl
  first_same zs (suc n) h =
      ap (λ b. cond b h (first_divided (places_for s zs) n (h + 1))) (divided_same zs h)
      ∙ ap (λ k. cond (divided (places_for r zs) h) h k) (first_same zs n (h + 1))

  pub hyper_same : (zs : List (Option Two)) → hyperperiod (places_for s zs) ≡ hyperperiod (places_for r zs)
  unfolding hyperperiod
  hyper_same zs = first_same zs 4096 1

  pub window_same : (w : Twin) → window (book_for s w) ≡ window (book_for r w)
  window_same w = ap (λ h. w.rounds * h) (hyper_same w.places)

  pub filled_same : (zs : List (Option Two)) (i : ℕ) → filled (get_or (places_for s zs) i None) ≡ filled (get_or (places_for r zs) i None)
  filled_same zs i =
      ap filled (at_place s zs i) ∙ filled_for s (get_or zs i None) ∙ sym (ap filled (at_place r zs i) ∙ filled_for r (get_or zs i None))

  -- the jobs of a round, and whether their deadlines fall within the window
  pub round_jobs_same : (w : Twin) (z : Two) → round_jobs (book_for s w) (entry_for s z) ≡ round_jobs (book_for r w) (entry_for r z)
  round_jobs_same w z = ap (λ h. h / z.period) (hyper_same w.places)

  pub within_same : (w : Twin) (z : Two) (place i : ℕ) → within (book_for s w) (job_at place (entry_for s z) i) ≡ within (book_for r w) (job_at place (entry_for r z) i)
  within_same w z place i = ap (λ e. leb (z.phase + i * z.period + z.deadline) e) (window_same w)

  pub all_within_same : (w : Twin) (z : Two) (place from n : ℕ)
      → all_within (book_for s w) place (entry_for s z) from n ≡ all_within (book_for r w) place (entry_for r z) from n
  all_within_same w z place from zero = refl
  all_within_same w z place from (suc n) =
      ap (λ b. b && within (book_for s w) (job_at place (entry_for s z) (from + n))) (all_within_same w z place from n)
      ∙ ap (λ b. all_within (book_for r w) place (entry_for r z) from n && b) (within_same w z place (from + n))
