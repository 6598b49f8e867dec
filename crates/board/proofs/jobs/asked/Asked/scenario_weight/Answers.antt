use Rattle.std.proofs.Common.{List, map, sym, ap, ◌∙◌}
use Rattle.analysis.specs.Cells.{total}
use Rattle.scenarios.specs.Questions.{drawn_from, product_of}
use Rattle.board.specs.Jobs.{Job}
use Rattle.board.specs.Places.{places}
use Rattle.board.specs.Tables.{table_pairs}
use Rattle.board.specs.Found.{job_of}
use Rattle.board.specs.Left.{left}
use Rattle.board.proofs.Gathered.{product_more, product_none, weight_is}
use Rattle.board.proofs.jobs.asked.Asked.scenario_weight.Goals as goal

pub loop-next-init : goal.loop-next-init
loop-next-init g c =
    let o = g.W.Weight.ops in
    let a = c.args.self.now in
    let opening = table_pairs a.opening in
    let first = c.into_iter-next-iterator.result in
    let rest : List Job → g.row.W.Denot = λ ks. product_of o (map (λ k. drawn_from k.entry.pairs) ks) in
    let all = ap (λ s. left (g.R.Ranking.ranks s.rule.now) s) c.into_iter-next-iterator.ensures.into_iter_gives ∙ c.counted-next-items.ensures in (
      tt,
      tt,
      ap (λ v. o.product v (rest (left (g.R.Ranking.ranks first.rule.now) first))) (c.total-all.ensures ∙ ap (total o) c.pairs.ensures)
          ∙ ap (λ ks. o.product (total o opening) (rest ks)) all
          ∙ weight_is g.W.Weight.laws (g.R.Ranking.ranks c.args.rule.now) (places a.entries) opening (job_of a.job),
    )

pub loop-next-preserved : goal.loop-next-preserved
loop-next-preserved g c =
    let o = g.W.Weight.ops in
    let all = c.loop-next.all in
    let pairs = table_pairs c.in-Some.next.task.table in
    let after = c.next.new.self in
    let rest : List Job → g.row.W.Denot = λ ks. product_of o (map (λ k. drawn_from k.entry.pairs) ks) in
    let ahead = rest (left (g.R.Ranking.ranks after.rule.now) after) in (
      tt,
      tt,
      ap (λ v. o.product v ahead) (c.product-all.ensures ∙ ap (o.product all) (c.total.ensures ∙ ap (total o) c.pairs-in-loop-next.ensures))
          ∙ product_more g.W.Weight.laws all pairs ahead
          ∙ ap (λ ks. o.product all (rest ks)) (sym c.in-Some.ensures.steps)
          ∙ c.loop-next.invariant.2,
    )

pub returns : goal.returns
returns g c =
    let o = g.W.Weight.ops in
    let all = c.loop-next.all in
    let rest : List Job → g.row.W.Denot = λ ks. product_of o (map (λ k. drawn_from k.entry.pairs) ks) in
    sym (product_none g.W.Weight.laws all) ∙ ap (λ ks. o.product all (rest ks)) (sym c.in-None.ensures.steps.0) ∙ c.loop-next.invariant.2
