use Rattle.std.proofs.Common.{◌≡◌, ◌+◌, ◌≤◌, ◌++◌, [], ◌∷◌, length, ap, ◌∙◌, arith}
use Rattle.std.proofs.lemmas.List.{length_push, take_all}
use Rattle.planfile.specs.Bodies.{pairs}
use Rattle.planfile.proofs.Wrong.{length_pairs, pair_held}
use Rattle.planfile.proofs.bodies.read_pairs.Goals as goal

pub loop-i-preserved : goal.loop-i-preserved
loop-i-preserved c =
    let k = c.in_ok-pair.ensures in
    let i = c.loop-i.i in
    let p = c.in_ok-pair.pair in
    let held = c.loop-i.held.items in
    let next = c.push.new.self.items in
    let inv = c.loop-i.invariant in
    let pushed : next ≡ held ++ p ∷ [] = ap (λ s. s.items) c.in-Ok.ensures.1 in (
      pair_held c.args.fields.now.file.now c.args.at c.args.count i c.loop-i-test.true held next p inv.0 k.1 pushed,
      ap length pushed ∙ (length_push held p ∙ ap (λ m. m + 1) inv.1),
      omega arith,
    )

pub returns : goal.returns
returns c =
    let f = c.args.fields.now.file.now in
    let i = c.loop-i.i in
    let n = length_pairs f c.args.at c.args.count in
    let le : length (pairs f c.args.at c.args.count) ≤ i = omega arith in
    c.loop-i.invariant.0 ∙ take_all i _ le
