-- Each call on a lawful book leaves it lawful.
use Rattle.std.proofs.Common.{◌≡◌, ℕ, ◌≤◌, true, ◌&&◌, eqb, leb, List, length, get_or, set, Some, None, Option, sym, refl, ◌∙◌, le_trans, length-set, arith}
use Rattle.std.proofs.lemmas.Bool.{leb-true}
use Rattle.std.proofs.lemmas.Bool.Decides.{nat_tests}
use Rattle.analysis.specs.declared.pair.Pair.{Pair}
use Rattle.scenarios.specs.Theorems.{Sound}
use Rattle.board.specs.Pairs.{lawful}
use Rattle.board.specs.Model.{Entry, Book, new_book, entry_lawful, all_lawful, bounded, book_lawful, window}
use Rattle.board.specs.Jobs.{Rule, due, release_of}
use Rattle.book.specs.Moves.{enter_refusal, with_places}
use Rattle.board.specs.Questions.{question_of}
use Rattle.book.specs.Asks.{within, job_at}
use Rattle.board.proofs.At.{ranges_at}
use Rattle.book.proofs.Clears.{lawful_put, cleared_lawful, empty_lawful}
use Rattle.book.proofs.Window.{limits, window_high}
use Rattle.book.proofs.Asked.{stands_in}
use Rattle.board.proofs.Sound.{sound_question}

pub record LawfulBook (b : Book) : Type 0 where
  pub entries_sound : book_lawful b.places b.rounds ≡ true
  pub opening_lawful : lawful b.opening ≡ true
  pub sixteen : length b.places ≡ 16

pub new_lawful : LawfulBook new_book
new_lawful = record { entries_sound = empty_lawful; opening_lawful = refl; sixteen = refl }

module _ (b : Book) (ok : LawfulBook b) where
  pub entered_lawful : (place : ℕ) (e : Entry) → eqb (enter_refusal b place e) 0 ≡ true → LawfulBook (with_places b (set b.places place (Some e)))
  entered_lawful place e h =
      let qs : List (Option Entry) = set b.places place (Some e) in
      let p : (entry_lawful e ≡ true) × (bounded qs ≡ true) = grind (arith, nat_tests) in
      let put : all_lawful qs ≡ true = lawful_put b.places place e p.0 (limits b.places b.rounds ok.entries_sound).entries_lawful in
      let old = ok.entries_sound in
      record {
        entries_sound = grind (arith, nat_tests);
        opening_lawful = ok.opening_lawful;
        sixteen = length-set b.places place (Some e) ∙ ok.sixteen;
      }

  pub withdrawn_lawful : (place : ℕ) → LawfulBook (with_places b (set b.places place None))
  withdrawn_lawful place = record {
    entries_sound = cleared_lawful b.places place b.rounds ok.entries_sound;
    opening_lawful = ok.opening_lawful;
    sixteen = length-set b.places place None ∙ ok.sixteen;
  }

  pub opened_lawful : (table : List Pair) → lawful table ≡ true → LawfulBook (record { places = b.places; opening = table; rounds = b.rounds })
  opened_lawful table h = record { entries_sound = ok.entries_sound; opening_lawful = h; sixteen = ok.sixteen }

  pub rounded_lawful : (n : ℕ) → (leb 1 n && leb n 8) ≡ true → LawfulBook (record { places = b.places; opening = b.opening; rounds = n })
  rounded_lawful n h =
      let old = ok.entries_sound in
      record {
        entries_sound = grind (arith, nat_tests);
        opening_lawful = ok.opening_lawful;
        sixteen = ok.sixteen;
      }

  -- the question of a job that the book has is sound
  pub found_sound : (rule : Rule) (place i : ℕ) (e : Entry) → get_or b.places place None ≡ Some e → within b (job_at place e i) ≡ true → Sound (question_of rule b (job_at place e i))
  found_sound rule place i e is inside =
      let entries = (limits b.places b.rounds ok.entries_sound).entries_lawful in
      let soon : due (job_at place e i) ≤ 32768 = le_trans (leb-true (due (job_at place e i)) (window b) inside) (window_high b.places b.rounds ok.entries_sound) in
      sound_question rule b.places b.opening (job_at place e i) entries ok.opening_lawful
      (stands_in b.places place i (release_of e i) e ok.sixteen is refl soon (ranges_at b.places place e entries (sym is)).deadline_low)
