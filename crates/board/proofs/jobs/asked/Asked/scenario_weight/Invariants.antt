use Rattle.std.proofs.Common.{◌≡◌, map}
use Rattle.scenarios.specs.Questions.{drawn_from, product_of, weight_of_all}
use Rattle.board.specs.Left.{left}
use Rattle.board.specs.Asked.{question_asked}
use Rattle.board.proofs.jobs.asked.Asked.scenario_weight.Given as goal

-- the product so far, times the totals of what is left of the counted jobs, is the weight of all
abbrev pub invariant-loop-next : goal.invariant-loop-next
invariant-loop-next g l =
    let o = g.W.Weight.ops in
    let rest = left (g.R.Ranking.ranks l.next-iterator.rule.now) l.next-iterator in
    (goal.iterator-loop-next g).can_next l.next-iterator
    × (goal.iterator-loop-next g).is_finite l.next-iterator
    × (o.product l.all (product_of o (map (λ k. drawn_from k.entry.pairs) rest)) ≡ weight_of_all o (question_asked (g.R.Ranking.ranks l.rule) l.self))
