use Rattle.std.proofs.Common.{◌++◌, vec_items, codes, ap, ◌∙◌}
use Rattle.book.specs.Drafts.{draft_book}
use Rattle.texts.specs.Texts.{field}
use Rattle.answers.specs.Books.{table_text, places_text}
use Rattle.texts.proofs.Joined.{four}
use Rattle.answers.proofs.books.write_book.Goals as goal

pub returns : goal.returns
returns c =
    let before = vec_items c.args.out.now in
    let first = c.args.first.now in
    let b = draft_book c.args.draft.now in
    let n = c.round_count.result in
    let ps = c.pairs.result.now in
    let places = places_text b.places in
    four before first (field (codes "rounds ") n) (table_text (codes " opening") ps) places _ _ _ _ c.in_ok-write_text.ensures c.in_ok-write_field.ensures c.in_ok-write_table.ensures c.in_ok-write_places.ensures
    ∙ (ap (λ k. before ++ (first ++ (field (codes "rounds ") k ++ (table_text (codes " opening") ps ++ places)))) c.round_count.ensures
    ∙ ap (λ qs. before ++ (first ++ (field (codes "rounds ") b.rounds ++ (table_text (codes " opening") qs ++ places)))) (c.pairs.ensures ∙ c.opening_table-opening.ensures))
