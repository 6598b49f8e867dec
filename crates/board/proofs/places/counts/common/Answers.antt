use Rattle.std.proofs.Common.{◌≡◌, ℕ, ◌*◌, ◌%◌, rules, arith}
use borrow.Author.Tests.{tests}
use Rattle.std.proofs.lemmas.Iterator.{first_from_Range}
use Rattle.std.proofs.lemmas.Option.{MatchOption-at_none, MatchOption-at_some}
use Rattle.board.proofs.Multiples.{none_common, least_common}
use Rattle.board.proofs.places.counts.common.Goals as goal

pub returns-in_err-times : goal.returns-in_err-times
returns-in_err-times c =
    let a = c.args.a in
    let b = c.args.b in
    let Yes : ℕ → Type 0 = λ n. n * a % b ≡ 0 in
    let No : ℕ → Type 0 = λ n. n * a % b ≡ 0 → ⊥ in
    let found = first_from_Range _ _ _ c.find.result Yes No c.find.ensures.ran (λ x q k. search (rules, tests)) (λ x q k. search (rules, tests)) in
    rw c.from_residual.ensures (none_common a b c.requires.0 (MatchOption-at_none _ _ c.in_err-times.was found))

pub overflow_mul-result : goal.overflow_mul-result
overflow_mul-result c =
    let a = c.args.a in
    let b = c.args.b in
    let n = c.in_ok-times.times in
    let Yes : ℕ → Type 0 = λ n. n * a % b ≡ 0 in
    let No : ℕ → Type 0 = λ n. n * a % b ≡ 0 → ⊥ in
    let found = MatchOption-at_some _ _ n c.in_ok-times.was (first_from_Range _ _ _ c.find.result Yes No c.find.ensures.ran (λ x q k. search (rules, tests)) (λ x q k. search (rules, tests))) in
    let least = least_common a b n c.requires.0 found.0 found.1 found.2 found.3 in
    omega (arith, least.1)

pub returns : goal.returns
returns c =
    let a = c.args.a in
    let b = c.args.b in
    let n = c.in_ok-times.times in
    let Yes : ℕ → Type 0 = λ n. n * a % b ≡ 0 in
    let No : ℕ → Type 0 = λ n. n * a % b ≡ 0 → ⊥ in
    let found = MatchOption-at_some _ _ n c.in_ok-times.was (first_from_Range _ _ _ c.find.result Yes No c.find.ensures.ran (λ x q k. search (rules, tests)) (λ x q k. search (rules, tests))) in
    least_common a b n c.requires.0 found.0 found.1 found.2 found.3
