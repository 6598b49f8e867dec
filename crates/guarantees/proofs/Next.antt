-- What two books keep from call to call.
use Rattle.std.proofs.Common.{◌≡◌, ℕ, Bool, true, false, cond, ◌&&◌, eqb, leb, List, [], ◌∷◌, ◌++◌, set, replicate, Some, None, Option, sym, refl, ap, subst, arith}
use Rattle.std.proofs.lemmas.List.{map-set}
use Rattle.std.proofs.lemmas.Bool.{true≢false, false≢true}
use Rattle.theory.specs.Semiring.{Ops, Laws}
use Rattle.kinds.specs.Counts.{count_ops, count_least, count_laws}
use Rattle.board.specs.Pairs.{lawful, no_work}
use Rattle.board.specs.Model.{Book}
use Rattle.book.specs.Moves.{enter_refusal, withdraw_refusal, with_places}
use Rattle.guarantees.specs.Runs.{Side, one, other, Tables, Books, Edit, edit, tables_of, new_books, after, Both}
use Rattle.guarantees.specs.Runs.{enter, withdraw, opening, rounds}
use Rattle.guarantees.specs.Law.{Slower, AllSlower}
use Rattle.guarantees.proofs.Twins.{Two, Twin, place_for, places_for, entry_for, book_for, books, filled_same}
use Rattle.guarantees.proofs.Lawful.{LawfulBook, new_lawful, entered_lawful, withdrawn_lawful, opened_lawful, rounded_lawful}
use Rattle.guarantees.proofs.Slow.{SlowPlaces, slow_put, slow_clear}

-- the edits on both books at once
abbrev put : Twin → ℕ → Option Two → Twin
put w i x = record { places = set w.places i x; opening = w.opening; rounds = w.rounds }

abbrev opened : Twin → Tables → Twin
opened w t = record { places = w.places; opening = t; rounds = w.rounds }

abbrev lasting : Twin → ℕ → Twin
lasting w n = record { places = w.places; opening = w.opening; rounds = n }

put_is : (s : Side) (w : Twin) (i : ℕ) (x : Option Two) → with_places (book_for s w) (set (places_for s w.places) i (place_for s x)) ≡ book_for s (put w i x)
put_is s w i x = ap (with_places (book_for s w)) (sym (map-set (place_for s) w.places i x))

module _ {K : Type 0} (ops : Ops K) (least : K → K → Type 0) where
  -- where the tables taken so far are slower, so are those that stand
  abbrev pub Slow : Twin → List Tables → Type 0
  Slow w ts = AllSlower ops least ts → SlowPlaces ops least w.places × Slower ops least w.opening.first w.opening.second

  slow_entered : (w : Twin) (ts : List Tables) (i : ℕ) (z : Two) → Slow w ts → Slow (put w i (Some z)) (z.tables ∷ ts)
  slow_entered w ts i z slow h = let old = slow h.1 in (slow_put ops least w.places i z h.0 old.0, old.1)

  slow_withdrawn : (w : Twin) (ts : List Tables) (i : ℕ) → Slow w ts → Slow (put w i None) ts
  slow_withdrawn w ts i slow h = let old = slow h in (slow_clear ops least w.places i old.0, old.1)

  slow_opened : (w : Twin) (ts : List Tables) (t : Tables) → Slow w ts → Slow (opened w t) (t ∷ ts)
  slow_opened w ts t slow h = ((slow h.1).0, h.0)

abbrev new_twin : Twin
new_twin = record { places = replicate 16 None; opening = record { first = no_work; second = no_work }; rounds = 1 }

new_slow : {K : Type 0} {ops : Ops K} {least : K → K → Type 0} → Laws ops least → Slow ops least new_twin []
new_slow laws h = (tt, record { worse = λ t k. laws.least_refl _; equal_total = refl })

module _ {K : Type 0} (ops : Ops K) (least : K → K → Type 0) where
  pub record Good (w : Twin) (ts : List Tables) : Type 0 where
    pub one_lawful : LawfulBook (book_for one w)
    pub other_lawful : LawfulBook (book_for other w)
    pub slow : Slow ops least w ts
    pub slow_counts : Slow count_ops count_least w ts

  pub record Kept (b : Books) : Type 0 where
    pub twin : Twin
    pub one_is : b.first ≡ book_for one twin
    pub other_is : b.second ≡ book_for other twin
    pub good : Good twin b.taken

  -- both books change, or neither
  choose : (B B' : Bool) (X Y X' Y' : Book) (ts : Bool → List Tables) → B ≡ B'
      → (B ≡ true → B' ≡ true → Kept (record { first = X; second = X'; taken = ts true }))
      → Kept (record { first = Y; second = Y'; taken = ts false })
      → Kept (record { first = cond B X Y; second = cond B' X' Y'; taken = ts B })
  choose true true X Y X' Y' ts e yes-kept no-kept = yes-kept refl refl
  choose true false X Y X' Y' ts e yes-kept no-kept = absurd (true≢false e)
  choose false true X Y X' Y' ts e yes-kept no-kept = absurd (false≢true e)
  choose false false X Y X' Y' ts e yes-kept no-kept = no-kept

  module _ (w : Twin) (ts : List Tables) (good : Good w ts) where
    same : Kept (books w ts)
    same = record { twin = w; one_is = refl; other_is = refl; good = good }

    next_enter : (place : ℕ) (z : Two) → eqb (enter_refusal (book_for one w) place (entry_for one z)) 0 ≡ eqb (enter_refusal (book_for other w) place (entry_for other z)) 0
        → Kept (after (edit (enter place z.period z.phase z.deadline z.tables)) (books w ts))
    next_enter place z both =
        choose (eqb (enter_refusal (book_for one w) place (entry_for one z)) 0) (eqb (enter_refusal (book_for other w) place (entry_for other z)) 0) _ _ _ _
        (λ b. cond b (z.tables ∷ []) [] ++ ts) both
        (λ h k. record {
          twin = put w place (Some z);
          one_is = put_is one w place (Some z);
          other_is = put_is other w place (Some z);
          good = record {
            one_lawful = subst LawfulBook (put_is one w place (Some z)) (entered_lawful (book_for one w) good.one_lawful place (entry_for one z) h);
            other_lawful = subst LawfulBook (put_is other w place (Some z)) (entered_lawful (book_for other w) good.other_lawful place (entry_for other z) k);
            slow = slow_entered ops least w ts place z good.slow;
            slow_counts = slow_entered count_ops count_least w ts place z good.slow_counts;
          };
        })
        same

    next_withdraw : (place : ℕ) → Kept (after (edit (withdraw place)) (books w ts))
    next_withdraw place =
        choose (eqb (withdraw_refusal (book_for one w) place) 0) (eqb (withdraw_refusal (book_for other w) place) 0) _ _ _ _ (λ b. cond b [] [] ++ ts)
        (ap (λ b. eqb (cond (leb place 15) (cond b 0 8) 1) 0) (filled_same one other w.places place))
        (λ _ _. record {
          twin = put w place None;
          one_is = put_is one w place None;
          other_is = put_is other w place None;
          good = record {
            one_lawful = subst LawfulBook (put_is one w place None) (withdrawn_lawful (book_for one w) good.one_lawful place);
            other_lawful = subst LawfulBook (put_is other w place None) (withdrawn_lawful (book_for other w) good.other_lawful place);
            slow = slow_withdrawn ops least w ts place good.slow;
            slow_counts = slow_withdrawn count_ops count_least w ts place good.slow_counts;
          };
        })
        same

    taken_together : (x y : Bool) → eqb (cond x 0 5) 0 ≡ eqb (cond y 0 5) 0 → x ≡ y
    taken_together x y e = grind arith

    next_opening : (t : Tables) → eqb (cond (lawful t.first) 0 5) 0 ≡ eqb (cond (lawful t.second) 0 5) 0 → Kept (after (edit (opening t)) (books w ts))
    next_opening t both =
        choose (lawful t.first) (lawful t.second) _ _ _ _ (λ b. cond (eqb (cond b 0 5) 0) (t ∷ []) [] ++ ts)
        (taken_together (lawful t.first) (lawful t.second) both)
        (λ h k. record {
          twin = opened w t;
          one_is = refl;
          other_is = refl;
          good = record {
            one_lawful = opened_lawful (book_for one w) good.one_lawful t.first h;
            other_lawful = opened_lawful (book_for other w) good.other_lawful t.second k;
            slow = slow_opened ops least w ts t good.slow;
            slow_counts = slow_opened count_ops count_least w ts t good.slow_counts;
          };
        })
        same

    next_rounds : (n : ℕ) → Kept (after (edit (rounds n)) (books w ts))
    next_rounds n =
        choose (leb 1 n && leb n 8) (leb 1 n && leb n 8) _ _ _ _ (λ b. cond (eqb (cond b 0 9) 0) [] [] ++ ts) refl
        (λ h k. record {
          twin = lasting w n;
          one_is = refl;
          other_is = refl;
          good = record {
            one_lawful = rounded_lawful (book_for one w) good.one_lawful n h;
            other_lawful = rounded_lawful (book_for other w) good.other_lawful n h;
            slow = good.slow;
            slow_counts = good.slow_counts;
          };
        })
        same

    pub next : (e : Edit) → Both e (books w ts) (tables_of e) → Kept (after (edit e) (books w ts))
    next (enter place period phase deadline t) both = next_enter place (record { period = period; phase = phase; deadline = deadline; tables = t }) both
    next (withdraw place) both = next_withdraw place
    next (opening t) both = next_opening t both
    next (rounds n) both = next_rounds n

pub new_kept : {K : Type 0} {ops : Ops K} {least : K → K → Type 0} → Laws ops least → Kept ops least new_books
new_kept laws = record {
  twin = new_twin;
  one_is = refl;
  other_is = refl;
  good = record { one_lawful = new_lawful; other_lawful = new_lawful; slow = new_slow laws; slow_counts = new_slow count_laws };
}
