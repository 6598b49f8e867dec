use Rattle.std.proofs.Common.{◌≡◌, ◌++◌, get_or, None, vec_items}
use Rattle.book.specs.Drafts.{draft_book}
use Rattle.texts.specs.Texts.{in_turn}
use Rattle.answers.specs.Books.{place_text}
use Rattle.answers.proofs.books.write_places.Given as goal

abbrev pub invariant-loop-place : goal.invariant-loop-place
invariant-loop-place l = vec_items l.out ≡ vec_items l.initial.out ++ in_turn (λ place. place_text place (get_or (draft_book l.draft).places place None)) l.place
