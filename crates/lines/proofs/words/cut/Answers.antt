use Rattle.std.proofs.Common.{◌≡◌, eqb, Some, None, rules}
use borrow.Author.Tests.{tests}
use Rattle.std.specs.List.{position}
use Rattle.std.proofs.lemmas.Iterator.{YieldsList-from_slice}
use Rattle.std.proofs.lemmas.Iterator.Search.{position_from_yields_List}
use Rattle.lines.proofs.Marked.{cut_nowhere, cut_parts}
use Rattle.lines.proofs.words.cut.Goals as goal

pub returns-in_err-at : goal.returns-in_err-at
returns-in_err-at c =
    let bs = c.args.bytes.now in
    let none : None ≡ position (λ b. eqb b c.args.mark) bs = position_from_yields_List (λ b. eqb b c.args.mark) _ _ None c.in_err-at.ensures.ran (YieldsList-from_slice bs c.iter.ensures.rest) (λ x b q k. search (rules, tests)) in
    rw c.from_residual.ensures (cut_nowhere c.args.mark bs none)

pub returns : goal.returns
returns c =
    let bs = c.args.bytes.now in
    let at : Some c.in_ok-at.at ≡ position (λ b. eqb b c.args.mark) bs = position_from_yields_List (λ b. eqb b c.args.mark) _ _ (Some c.in_ok-at.at) c.in_ok-at.ensures.ran (YieldsList-from_slice bs c.iter.ensures.rest) (λ x b q k. search (rules, tests)) in
    cut_parts c.args.mark bs c.in_ok-at.at at
