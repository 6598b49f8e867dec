use Rattle.std.proofs.Common.{◌≡◌, ℕ, ◌+◌, ◌<◌, ◌≤◌, true, Some, None, length, drop, sym, ◌∙◌, subst, arith}
use native.Mathlib.Nat.{mod_self}
use Rattle.std.proofs.lemmas.List.{length-map, at_drop_all}
use Rattle.board.specs.Places.{places, entry_of}
use Rattle.board.specs.Model.{divided}
use Rattle.board.proofs.Records.{entries_at}
use Rattle.board.proofs.Steps.{bare}
use Rattle.board.proofs.Searches.{this_divides, rest_decides, hyper_none, hyper_is, Holds, multiple}
use Rattle.board.proofs.places.Entries.checked_hyperperiod.Goals as goal
use Rattle.board.proofs.places.Entries.checked_hyperperiod.Goals.{in-Some+in_ok-h, in_default}

pub returns-in_err-h : goal.returns-in_err-h
returns-in_err-h c =
    let e = c.args.self.now in
    let ps = places e in
    let i = c.loop-held.held-index in
    let lt : i < length ps = simp length-map (omega arith) in
    let at = entries_at e i c.held-item.result (Some c.in-Some.task) (omega arith) c.in-Some.is in
    let inv = c.loop-held.invariant in
    let none = hyper_none ps (λ k l u d. c.in_err-h.ensures k l u (inv.2 k d) (this_divides ps i c.loop-held.h (entry_of c.in-Some.task) lt at inv.2 inv.3 k d)) in
    rw c.from_residual.ensures none

pub loop-held-preserved : goal.loop-held-preserved
loop-held-preserved c =
    let s = c.args.self.now in
    let ps = places s in
    let i = c.loop-held.held-index in
    let lt : i < length ps = simp length-map (omega arith) in
    let inv = c.loop-held.invariant in
    let P : ℕ → Type 0 = λ h. Holds ps (i + 1) h in
    elim c.match-held.branch [
      | in-Some+in_ok-h w ↦
          let e = entry_of w.in-Some.task in
          let m = w.in_ok-h.h in
          let f = w.in_ok-h.ensures in
          let at = entries_at s i c.held-item.result (Some w.in-Some.task) (omega arith) w.in-Some.is in
          subst P (sym w.h-is) (
            f.0,
            f.1,
            (λ k d. f.4 k (inv.2 k d) (this_divides ps i c.loop-held.h e lt at inv.2 inv.3 k d)),
            (λ k z. rest_decides ps i c.loop-held.h e lt at inv.3 k (multiple k m c.loop-held.h z f.2) (multiple k m e.period z f.3)),
          )
      | in_default w ↦
          let at = entries_at s i c.held-item.result None (omega arith) w.in_default.is in
          subst P (sym w.h-is) (
            inv.0,
            inv.1,
            inv.2,
            (λ k z. sym (bare ps i k lt at).divided_is ∙ inv.3 k z),
          )
    ]

pub returns : goal.returns
returns c =
    let ps = places c.args.self.now in
    let i = c.loop-held.held-index in
    let le : length ps ≤ i = simp length-map (omega arith) in
    let inv = c.loop-held.invariant in
    let a : divided (drop i ps) c.loop-held.h ≡ true = at_drop_all (λ xs. divided xs c.loop-held.h) ps i le in
    (sym (hyper_is ps c.loop-held.h inv.0 inv.1 (sym (inv.3 c.loop-held.h (mod_self c.loop-held.h)) ∙ a) inv.2), inv.1)
