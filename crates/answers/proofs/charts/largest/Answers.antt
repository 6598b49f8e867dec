use Rattle.std.proofs.Common.{take, ap, ◌∙◌, unwrap_or, rules, tests}
use Rattle.std.proofs.lemmas.Iterator.{YieldsList-from_slice, YieldsList-from_take, YieldsList-from_map}
use Rattle.std.proofs.lemmas.Iterator.Consumers.{YieldsList-at, reduce_from_yields_List}
use Rattle.std.proofs.lemmas.List.Folds.{max_of_map}
use Rattle.answers.proofs.Barred.{largest_is}
use Rattle.answers.proofs.charts.largest.Goals as goal

pub returns : goal.returns
returns g c =
    let size = g.W.Printable.size in
    let sheet = c.args.sheet.now in
    c.unwrap_or.ensures
    ∙ (ap (λ o. unwrap_or o 0) (reduce_from_yields_List _ c.map.result _ c.max.ensures.ran (YieldsList-from_map _ size (YieldsList-at c.map.ensures.source (YieldsList-from_take 257 (YieldsList-from_slice sheet cc) c.take.ensures.count)) c.map.ensures.closure (λ x b q k. search (rules, tests))))
    ∙ (max_of_map size (take 257 sheet)
    ∙ largest_is g.W.Weight.ops size sheet 257 g.met.W.Printable.nought_sized))
