use Rattle.std.proofs.Common.{Some, None, not, sym, ap, ◌∙◌, arith, below_more}
use Rattle.board.specs.Found.{quiet}
use Rattle.board.proofs.Records.{entries_at}
use Rattle.board.proofs.places.Entries.next_release.Goals as goal
use Rattle.board.proofs.places.Entries.next_release.Goals.{in-Some, in_default}

pub loop-held-preserved : goal.loop-held-preserved
loop-held-preserved c =
    let e = c.args.self.now in
    let i = c.loop-held.held-index in
    let inv = c.loop-held.invariant in
    elim c.match-held.branch [
      | in-Some w ↦
          let at = entries_at e i c.held-item.result (Some w.in-Some.task) (omega arith) w.in-Some.is in (
            omega (arith, w.next-is),
            omega (arith, w.next-is),
            below_more _ _
                (λ p lt k le l. inv.2 p lt k le (omega (arith, w.next-is)))
                (λ k le l. ap (λ x. quiet x k) (sym at) ∙ ap not (w.next_release.ensures.none k le (omega (arith, w.next-is)))),
          )
      | in_default w ↦
          let at = entries_at e i c.held-item.result None (omega arith) w.in_default.is in (
            omega (arith, w.next-is),
            omega (arith, w.next-is),
            below_more _ _ (λ p lt k le l. inv.2 p lt k le (omega (arith, w.next-is))) (λ k le l. ap (λ x. quiet x k) (sym at)),
          )
    ]
