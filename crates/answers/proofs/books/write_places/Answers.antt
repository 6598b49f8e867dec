use Rattle.std.proofs.Common.{◌≡◌, ℕ, ◌++◌, get_or, None, vec_items, ap, ◌∙◌, arith}
use Rattle.book.specs.Drafts.{draft_book}
use Rattle.texts.specs.Texts.{in_turn}
use Rattle.answers.specs.Books.{place_text}
use Rattle.texts.proofs.Joined.{start_in_turn, more_in_turn}
use Rattle.answers.proofs.books.write_places.Goals as goal

pub loop-place-init : goal.loop-place-init
loop-place-init c = start_in_turn (λ place. place_text place (get_or (draft_book c.args.draft.now).places place None)) (vec_items c.args.out.now)

pub loop-place-preserved : goal.loop-place-preserved
loop-place-preserved c =
    let n = c.loop-place.place in
    more_in_turn (λ place. place_text place (get_or (draft_book c.args.draft.now).places place None)) n _ (vec_items c.args.out.now) _ _ (ap (place_text n) c.entry.ensures) c.loop-place.invariant c.in_ok-write_place.ensures

pub returns : goal.returns
returns c =
    let line = λ (place : ℕ). place_text place (get_or (draft_book c.args.draft.now).places place None) in
    let all : c.loop-place.place ≡ 16 = omega arith in
    c.loop-place.invariant ∙ ap (λ n. vec_items c.args.out.now ++ in_turn line n) all
