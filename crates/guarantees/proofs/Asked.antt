-- The job that a question asks for, in one book and in both.
use Rattle.std.proofs.Common.{◌≡◌, ℕ, Bool, true, false, cond, ltb, leb, get_or, Some, None, Ok, Err, Option, Result, sym, refl, ap, ◌∙◌, subst, subst₂, arith}
use Rattle.scenarios.specs.Theorems.{Sound}
use Rattle.board.specs.Model.{Entry, Book, window}
use Rattle.board.specs.Jobs.{Rule, Job, due, release_of, job_within, asked}
use Rattle.board.specs.Questions.{question_of}
use Rattle.book.specs.Asks.{within, granted, job_at}
use Rattle.guarantees.specs.Runs.{Side, one, other}
use Rattle.guarantees.proofs.Twins.{Two, Twin, place_for, entry_for, book_for, at_place, window_same}
use Rattle.guarantees.proofs.Lawful.{LawfulBook, found_sound}

-- what is granted, by the end of the window
abbrev granted_by : ℕ → Option Job → Result Job ℕ
granted_by end None = Err 11
granted_by end (Some j) = cond (leb (due j) end) (Ok j) (Err 12)

granted_is : (b : Book) (x : Option Job) → granted b x ≡ granted_by (window b) x
granted_is b None = refl
granted_is b (Some j) = refl

pub no_answer : {X : Type 0} (n : ℕ) (x : X) → Err n ≡ Ok x → ⊥
no_answer n x e = let z : ◌≡◌ {A = ℕ} 0 1 = cc in omega arith

module _ (place i : ℕ) where
  abbrev ask : ℕ → Option Entry → Result Job ℕ
  ask end x = granted_by end (job_within end place i x)

  module _ (w : Twin) where
    ask_for : (s : Side) → granted (book_for s w) (asked (book_for s w) place i) ≡ ask (window (book_for one w)) (place_for s (get_or w.places place None))
    ask_for s =
        granted_is (book_for s w) (asked (book_for s w) place i)
        ∙ ap (λ e. ask e (get_or (book_for s w).places place None)) (window_same s one w)
        ∙ ap (ask (window (book_for one w))) (at_place s w.places place)

    -- both books refuse with one number, or both have the job
    pub asks : (Q : Result Job ℕ → Result Job ℕ → Type 0) → ((n : ℕ) → Q (Err n) (Err n))
        → ((z : Two) → get_or w.places place None ≡ Some z → within (book_for one w) (job_at place (entry_for one z) i) ≡ true
        → Q (Ok (job_at place (entry_for one z) i)) (Ok (job_at place (entry_for other z) i)))
        → Q (granted (book_for one w) (asked (book_for one w) place i)) (granted (book_for other w) (asked (book_for other w) place i))
    asks Q refused found = subst₂ Q (sym (ask_for one)) (sym (ask_for other)) (by_entry (get_or w.places place None) refl)
      where
        by_deadline : (z : Two) → get_or w.places place None ≡ Some z → (b : Bool) → leb (due (job_at place (entry_for one z) i)) (window (book_for one w)) ≡ b
            → Q (cond b (Ok (job_at place (entry_for one z) i)) (Err 12)) (cond b (Ok (job_at place (entry_for other z) i)) (Err 12))
        by_deadline z is true e = found z is e
        by_deadline z is false e = refused 12

        by_entry : (x : Option Two) → get_or w.places place None ≡ x → Q (ask (window (book_for one w)) (place_for one x)) (ask (window (book_for one w)) (place_for other x))
        by_entry None is = refused 11
        by_entry (Some z) is =
            elim (ltb (release_of (entry_for one z) i) (window (book_for one w)))
            as (λ b. Q (granted_by (window (book_for one w)) (cond b (Some (job_at place (entry_for one z) i)) None)) (granted_by (window (book_for one w)) (cond b (Some (job_at place (entry_for other z) i)) None)))
            [ true ↦ by_deadline z is (leb (due (job_at place (entry_for one z) i)) (window (book_for one w))) refl | false ↦ refused 11 ]

  -- the question of a job that is granted is sound
  module _ (rule : Rule) (b : Book) (ok : LawfulBook b) (j : Job) where
    abbrev SoundWhere : Result Job ℕ → Type 0
    SoundWhere r = r ≡ Ok j → Sound (question_of rule b j)

    refuses : (n : ℕ) → SoundWhere (Err n)
    refuses n e = absurd (no_answer n j e)

    in_window : (e : Entry) → get_or b.places place None ≡ Some e → (t : Bool) → within b (job_at place e i) ≡ t → SoundWhere (cond t (Ok (job_at place e i)) (Err 12))
    in_window e is true inside was = let eq : job_at place e i ≡ j = cc in subst (λ (k : Job). Sound (question_of rule b k)) eq (found_sound b ok rule place i e is inside)
    in_window e is false inside was = refuses 12 was

    at_entry : (x : Option Entry) → get_or b.places place None ≡ x → SoundWhere (granted b (job_within (window b) place i x))
    at_entry None is = refuses 11
    at_entry (Some e) is =
        elim (ltb (release_of e i) (window b)) as (λ t. SoundWhere (granted b (cond t (Some (job_at place e i)) None)))
        [ true ↦ in_window e is (within b (job_at place e i)) refl | false ↦ refuses 11 ]

    pub granted_sound : granted b (asked b place i) ≡ Ok j → Sound (question_of rule b j)
    granted_sound = at_entry (get_or b.places place None) refl
