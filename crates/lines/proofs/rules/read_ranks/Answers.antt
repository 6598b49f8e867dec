use Rattle.std.proofs.Common.{◌∙◌, ◌≢◌, eqb, length, MatchResult, sym, ap, subst, rules}
use borrow.Author.Tests.{tests}
use Rattle.std.specs.Array.{IsWholeChunk}
use Rattle.std.specs.Slice.Iter.{split_rest, split_done, split_callee}
use Rattle.std.proofs.lemmas.Iterator.Splits.{YieldsList-from_slice_split}
use Rattle.lines.proofs.Ranked.{RankedOn, parts, none_yet, no_rank, too_many, rank_further, too_few, all_ranks, yields_next, yields_none, added, full}
use Rattle.lines.proofs.rules.read_ranks.Goals as goal

pub loop-piece-init : goal.loop-piece-init
loop-piece-init c =
    let list = c.args.list.now in
    let is = c.into_iter-piece-iterator.ensures.into_iter_gives in (
      parts list,
      YieldsList-from_slice_split {s = c.into_iter-piece-iterator.result} _ (λ b. eqb b 44) list (ap split_rest is ∙ c.split-piece-items.ensures.rest) (ap split_done is ∙ c.split-piece-items.ensures.done) (ap split_callee is ∙ c.split-piece-items.ensures.closure) (λ x b q k. search (rules, tests)),
      subst (λ held. RankedOn list held (parts list)) (sym (ap (λ s. s.items) c.new-ranks.ensures)) (none_yet list),
    )

pub returns-in_err-rank : goal.returns-in_err-rank
returns-in_err-rank c =
    let inv = c.loop-piece.invariant in
    let more = yields_next inv.0 c.loop-piece.piece-iterator c.next.new.self c.in-Some.piece inv.1 c.in-Some.ensures.steps in
    let on = subst (RankedOn c.args.list.now c.loop-piece.ranks.items) more.1 inv.2 in
    rw c.from_residual.ensures (no_rank _ _ c.in-Some.piece.now more.0 on c.in_err-rank.ensures)

pub loop-piece-preserved : goal.loop-piece-preserved
loop-piece-preserved c =
    let inv = c.loop-piece.invariant in
    let more = yields_next inv.0 c.loop-piece.piece-iterator c.next.new.self c.in-Some.piece inv.1 c.in-Some.ensures.steps in
    let on = subst (RankedOn c.args.list.now c.loop-piece.ranks.items) more.1 inv.2 in
    let items = added c.loop-piece.ranks c.push.new.self c.in_ok-rank.rank c.push.result c.in_ok-ok.field-0 c.push.ensures c.in_ok-ok.ensures.value in (
      more.0,
      more.2,
      subst (λ held. RankedOn c.args.list.now held more.0) (sym items) (rank_further _ _ c.in-Some.piece.now more.0 on c.in_ok-rank.rank c.in_ok-rank.ensures),
    )

pub returns-in_err-ok : goal.returns-in_err-ok
returns-in_err-ok c =
    let inv = c.loop-piece.invariant in
    let more = yields_next inv.0 c.loop-piece.piece-iterator c.next.new.self c.in-Some.piece inv.1 c.in-Some.ensures.steps in
    let on = subst (RankedOn c.args.list.now c.loop-piece.ranks.items) more.1 inv.2 in
    rw c.from_residual-in_err-ok.ensures (too_many _ _ c.in-Some.piece.now more.0 on (full c.loop-piece.ranks c.push.new.self c.in_ok-rank.rank c.push.result c.push.ensures c.in_err-ok.ensures.value))

pub returns-in_err-ranks : goal.returns-in_err-ranks
returns-in_err-ranks c =
    let inv = c.loop-piece.invariant in
    let on = subst (RankedOn c.args.list.now c.loop-piece.ranks.items) (yields_none inv.0 c.loop-piece.piece-iterator c.next.new.self inv.1 c.in-None.ensures.steps) inv.2 in
    let chunk = subst (λ xs. MatchResult c.try_from.result (λ y. IsWholeChunk xs y 16) (λ _. length xs ≢ 16)) c.as_slice.ensures.is c.try_from.ensures.1 in
    rw c.from_residual-in_err-ranks.ensures (too_few _ _ c.try_from.result on chunk c.in_err-ranks.ensures.value)

pub returns : goal.returns
returns c =
    let inv = c.loop-piece.invariant in
    let on = subst (RankedOn c.args.list.now c.loop-piece.ranks.items) (yields_none inv.0 c.loop-piece.piece-iterator c.next.new.self inv.1 c.in-None.ensures.steps) inv.2 in
    let chunk = subst (λ xs. MatchResult c.try_from.result (λ y. IsWholeChunk xs y 16) (λ _. length xs ≢ 16)) c.as_slice.ensures.is c.try_from.ensures.1 in
    all_ranks _ _ c.try_from.result on chunk c.in_ok-ranks.ranks c.in_ok-ranks.ensures.value
