use Rattle.std.proofs.Common.{◌≡◌, ◌-◌, ◌∙◌, not, length, take, drop, Some, None, ap, arith, rules}
use borrow.Author.Tests.{tests}
use Rattle.std.specs.List.{position}
use Rattle.std.proofs.lemmas.List.{take_all, length-drop}
use Rattle.std.proofs.lemmas.Iterator.{YieldsList-from_slice}
use Rattle.std.proofs.lemmas.Iterator.Search.{position_from_yields_List}
use Rattle.lines.specs.Fields.{blank}
use Rattle.lines.proofs.Fielded.{none_left, its_width, next_field}
use Rattle.lines.proofs.fields.FieldsIterator.next.Goals as goal

pub returns-in_err-blanks-clause-steps : goal.returns-in_err-blanks-clause-steps
returns-in_err-blanks-clause-steps c =
    let bs = c.args.self.now.rest.now in
    let none : None ≡ position (λ b. not (blank b)) bs = position_from_yields_List (λ b. not (blank b)) _ _ None c.in_err-blanks.ensures.ran (YieldsList-from_slice bs c.iter.ensures.rest) (λ x b q k. search (rules, tests)) in
    let empty = none_left bs none in
    rw c.from_residual.ensures (empty, empty)

pub returns-clause-steps : goal.returns-clause-steps
returns-clause-steps c =
    let bs = c.args.self.now.rest.now in
    let i = c.in_ok-blanks.blanks in
    let at : Some i ≡ position (λ b. not (blank b)) bs = position_from_yields_List (λ b. not (blank b)) _ _ (Some i) c.in_ok-blanks.ensures.ran (YieldsList-from_slice bs c.iter.ensures.rest) (λ x b q k. search (rules, tests)) in
    let line = take (length bs - i) (drop i bs) in
    let all : line ≡ drop i bs = take_all (length bs - i) (drop i bs) (omega (arith, length-drop i bs)) in
    let to : c.position-2.result ≡ position blank line = position_from_yields_List blank _ _ c.position-2.result c.position-2.ensures.ran (YieldsList-from_slice line c.iter-2.ensures.rest) (λ x b q k. search (rules, tests)) in
    next_field bs line c.split_at.result.0.now c.split_at.result.1.now i c.unwrap_or-width.result at all (c.unwrap_or-width.ensures ∙ its_width line c.position-2.result to) c.split_at.ensures.front c.split_at.ensures.back

pub returns-clause-goes : goal.returns-clause-goes
returns-clause-goes c =
    let bs = c.args.self.now.rest.now in
    let i = c.in_ok-blanks.blanks in
    let at : Some i ≡ position (λ b. not (blank b)) bs = position_from_yields_List (λ b. not (blank b)) _ _ (Some i) c.in_ok-blanks.ensures.ran (YieldsList-from_slice bs c.iter.ensures.rest) (λ x b q k. search (rules, tests)) in
    let line = take (length bs - i) (drop i bs) in
    let all : line ≡ drop i bs = take_all (length bs - i) (drop i bs) (omega (arith, length-drop i bs)) in
    let to : c.position-2.result ≡ position blank line = position_from_yields_List blank _ _ c.position-2.result c.position-2.ensures.ran (YieldsList-from_slice line c.iter-2.ensures.rest) (λ x b q k. search (rules, tests)) in
    let shorter = ap length (next_field bs line c.split_at.result.0.now c.split_at.result.1.now i c.unwrap_or-width.result at all (c.unwrap_or-width.ensures ∙ its_width line c.position-2.result to) c.split_at.ensures.front c.split_at.ensures.back) in
    search rules
