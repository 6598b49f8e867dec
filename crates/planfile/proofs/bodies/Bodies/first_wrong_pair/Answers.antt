use Rattle.std.proofs.Common.{◌≡◌, ℕ, ◌+◌, ◌*◌, ◌<◌, ◌≤◌, List, length, get_or, take, drop, Some, None, sym, refl, ap, ◌∙◌, arith}
use Rattle.std.proofs.lemmas.List.{at_drop_all}
use Rattle.planfile.specs.declared.contents.Entry.{Entry}
use Rattle.planfile.specs.Contents.{pair_count, blank}
use Rattle.planfile.specs.Bodies.{pairs, first_wrong, wrong_pair}
use Rattle.planfile.proofs.Wrong.{length_pairs, pair_goes, pair_stops, body_goes, body_stops, within_next}
use Rattle.planfile.proofs.Entering.{within_take}
use Rattle.planfile.proofs.bodies.Bodies.first_wrong_pair.Goals as goal

pub bodies-init : goal.bodies-init
bodies-init c = (refl, refl, within_take c.args.self.now.fields.file.now c.args.self.now.entries.now c.args.count c.args.self.now.fits)

pub loop-i-preserved : goal.loop-i-preserved
loop-i-preserved c =
    let f = c.args.self.now.fields.file.now in
    let first = (get_or (take c.args.count c.args.self.now.entries.now) c.bodies.entry-index blank).start + 6 in
    let p = c.in_ok-pair.pair in
    let k = c.in_ok-pair.ensures in
    let g = pair_goes f first c.in_ok-named.field-0 c.loop-i.i c.loop-i-test.true c.loop-i.low p k.1 c.if-pair-low.false c.if-pair-eq0.false in
    (c.loop-i.invariant.0, g ∙ c.loop-i.invariant.1, omega arith)

-- no pair of the body is wrong
none_wrong : (f : List ℕ) (e : Entry) (n i low : ℕ) → n ≡ pair_count f e → n ≤ i → first_wrong (drop i (pairs f (e.start + 6) n)) low (e.start + 6 + 3 * i) ≡ first_wrong (pairs f (e.start + 6) n) 0 (e.start + 6) → wrong_pair f e ≡ None
none_wrong f e n i low is le inv =
    let m = length_pairs f (e.start + 6) n in
    let past : length (pairs f (e.start + 6) n) ≤ i = omega arith in
    ap (λ k. first_wrong (pairs f (e.start + 6) k) 0 (e.start + 6)) (sym is)
    ∙ (sym inv ∙ at_drop_all (λ ps. first_wrong ps low (e.start + 6 + 3 * i)) (pairs f (e.start + 6) n) i past)

pub bodies-preserved : goal.bodies-preserved
bodies-preserved c =
    let f = c.args.self.now.fields.file.now in
    let es = take c.args.count c.args.self.now.entries.now in
    let j = c.bodies.entry-index in
    let lt : j < length es = c.bodies-test.true in
    let w = within_next f es j blank lt c.bodies.invariant.2 in
    let n = c.in_ok-named.ensures in
    let z = none_wrong f (get_or es j blank) c.in_ok-named.field-0 c.loop-i.i c.loop-i.low n.1 c.loop-i-test.false c.loop-i.invariant.1 in
    (c.loop-i.invariant.0, body_goes f es j blank lt z ∙ c.bodies.invariant.1, w.1)

pub returns-then-pair-low : goal.returns-then-pair-low
returns-then-pair-low c =
    let f = c.args.self.now.fields.file.now in
    let es = take c.args.count c.args.self.now.entries.now in
    let j = c.bodies.entry-index in
    let first = (get_or es j blank).start + 6 in
    let lt : j < length es = c.bodies-test.true in
    let n = c.in_ok-named.ensures in
    let k = c.in_ok-pair.ensures in
    let g = pair_stops f first c.in_ok-named.field-0 c.loop-i.i c.loop-i-test.true c.loop-i.low c.in_ok-pair.pair k.1 c.then-pair-low.either in
    let z : wrong_pair f (get_or es j blank) ≡ Some (first + 3 * c.loop-i.i) = ap (λ m. first_wrong (pairs f first m) 0 first) (sym n.1) ∙ (sym c.loop-i.invariant.1 ∙ g) in
    sym (body_stops f es j blank lt _ z) ∙ c.bodies.invariant.1
