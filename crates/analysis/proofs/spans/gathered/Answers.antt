use Rattle.std.proofs.Common.{fold, ap, ◌∙◌, rules}
use Rattle.std.proofs.lemmas.Iterator.{YieldsList-from_slice}
use Rattle.std.proofs.lemmas.Iterator.Consumers.{fold_from_yields_List}
use Rattle.analysis.proofs.Steps.{over_span}
use Rattle.analysis.proofs.spans.gathered.Goals as goal

pub returns : goal.returns
returns g c =
    let o = g.W.Weight.ops in
    let xs = c.args.part.now in
    let each = fold_from_yields_List _ o.sum _ _ c.fold.ensures.ran (YieldsList-from_slice xs c.iter.ensures.rest) (λ a x b q k. search rules) in
    each ∙ ap (λ n. fold o.sum n xs) c.nought.ensures ∙ over_span o xs
