use Rattle.std.proofs.Common.{◌≡◌, ◌+◌, ◌*◌, ◌<◌, ◌≤◌, ◌++◌, [], ◌∷◌, length, drop, Some, sym, ap, ◌∙◌, arith}
use Rattle.std.proofs.lemmas.List.{length_push, take_all, at_drop_all}
use Rattle.std.proofs.lemmas.Result.{err_from_is_err_and}
use Rattle.std.proofs.lemmas.Bool.{cond-true, cond-false}
use Rattle.planfile.specs.Fields.{byte}
use Rattle.planfile.specs.Contents.{entry, contents, contents_fault, entries_fault, last_end, body_end}
use Rattle.planfile.proofs.Listed.{length_contents, stops, goes, end_goes, held_goes}
use Rattle.planfile.proofs.contents.Contents.read.Goals as goal

pub returns-in_err-count : goal.returns-in_err-count
unfolding contents_fault
returns-in_err-count c =
    let p = err_from_is_err_and c.from_residual.result c.from_residual.ensures.1 in
    let k = c.in_err-count.ensures in
    rw (p.1, p.2) (cond-false _ _ _ k.1 ∙ ap Some (sym k.0))

pub returns-in_err-entry : goal.returns-in_err-entry
unfolding contents_fault
returns-in_err-entry c =
    let f = c.args.file.now in
    let p = err_from_is_err_and c.from_residual-in_err-entry.result c.from_residual-in_err-entry.ensures.1 in
    let n = c.in_ok-count.ensures in
    let k = c.in_err-entry.ensures in
    let i = c.loop-i.i in
    let lt : i < byte f 0 = omega arith in
    let s = stops f i c.loop-i.read.end lt c.loop-i.read.entries.items k.1 in
    rw (p.1, p.2) (cond-true _ _ _ n.1 ∙ (sym c.loop-i.invariant.3 ∙ (s ∙ ap Some (sym k.0))))

pub loop-i-preserved : goal.loop-i-preserved
loop-i-preserved c =
    let f = c.args.file.now in
    let n = c.in_ok-count.ensures in
    let k = c.in_ok-entry.ensures in
    let i = c.loop-i.i in
    let e = c.in_ok-entry.entry in
    let held = c.loop-i.read.entries.items in
    let next = c.push.new.self.items in
    let inv = c.loop-i.invariant in
    let lt : i < byte f 0 = omega arith in
    let pushed : next ≡ held ++ e ∷ [] = ap (λ s. s.items) c.in-Ok.ensures.1 in
    let end : c.end.result ≡ body_end (entry f (1 + 5 * i)) = c.end.ensures ∙ ap body_end k.0 in (
      held_goes f i c.loop-i.read.end lt held next e k.0 pushed inv.0,
      ap length pushed ∙ (length_push held e ∙ ap (λ m. m + 1) inv.1),
      ap (λ x. last_end x (drop (i + 1) (contents f))) end ∙ (sym (end_goes f i c.loop-i.read.end lt) ∙ inv.2),
      ap (λ x. entries_fault f (1 + 5 * (i + 1)) x next (drop (i + 1) (contents f))) end
          ∙ (sym (goes f i c.loop-i.read.end lt held next e k.0 pushed k.1) ∙ inv.3),
    )

pub returns : goal.returns
unfolding contents_fault
returns c =
    let f = c.args.file.now in
    let n = c.in_ok-count.ensures in
    let i = c.loop-i.i in
    let inv = c.loop-i.invariant in
    let m = length_contents f in
    let le : length (contents f) ≤ i = omega arith in (
      cond-true _ _ _ n.1 ∙ (sym inv.3 ∙ at_drop_all (entries_fault f (1 + 5 * i) c.loop-i.read.end c.loop-i.read.entries.items) (contents f) i le),
      inv.0 ∙ take_all i (contents f) le,
      sym (at_drop_all (last_end c.loop-i.read.end) (contents f) i le) ∙ inv.2,
    )
