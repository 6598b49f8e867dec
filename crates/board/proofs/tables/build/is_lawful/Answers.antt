use Rattle.std.proofs.Common.{◌≡◌, ◌+◌, ◌<◌, ◌≤◌, true, ◌&&◌, leb, length, get_or, drop, arith}
use Rattle.std.proofs.lemmas.List.{at_drop_more, at_drop_all}
use Rattle.std.proofs.lemmas.Bool.Decides.{nat_tests}
use Rattle.board.specs.Pairs.{rising, weighted, weights}
use Rattle.analysis.specs.declared.pair.Pair.{Pair}
use Rattle.board.proofs.tables.build.is_lawful.Goals as goal
use Rattle.board.proofs.tables.build.is_lawful.Goals.{then-p-low-via-then-p-low, then-p-low-via-else-p-low+then-p-eq0}

pub returns-then-p-low : goal.returns-then-p-low
returns-then-p-low c =
    let xs = c.args.pairs.now in
    let i = c.loop-p.p-index in
    let d : Pair = record { time = 0; weight = 0 } in
    let p = get_or xs i d in
    let lt : i < length xs = omega arith in
    let a : rising c.loop-p.low (drop i xs) ≡ ((leb c.loop-p.low p.time && leb p.time 255) && rising (p.time + 1) (drop (i + 1) xs)) = at_drop_more (rising c.loop-p.low) xs i d lt in
    let b : weighted (drop i xs) ≡ (leb 1 p.weight && weighted (drop (i + 1) xs)) = at_drop_more weighted xs i d lt in
    elim c.then-p-low.branch [ then-p-low-via-then-p-low w ↦ grind (arith, nat_tests) | then-p-low-via-else-p-low+then-p-eq0 w ↦ grind (arith, nat_tests) ]

pub loop-p-preserved : goal.loop-p-preserved
loop-p-preserved c =
    let xs = c.args.pairs.now in
    let i = c.loop-p.p-index in
    let d : Pair = record { time = 0; weight = 0 } in
    let p = get_or xs i d in
    let lt : i < length xs = omega arith in
    let a : rising c.loop-p.low (drop i xs) ≡ ((leb c.loop-p.low p.time && leb p.time 255) && rising (p.time + 1) (drop (i + 1) xs)) = at_drop_more (rising c.loop-p.low) xs i d lt in
    let b : weighted (drop i xs) ≡ (leb 1 p.weight && weighted (drop (i + 1) xs)) = at_drop_more weighted xs i d lt in
    let t : weights (drop i xs) ≡ p.weight + weights (drop (i + 1) xs) = at_drop_more weights xs i d lt in
    (grind (arith, nat_tests), grind (arith, nat_tests), omega arith, omega arith)

pub returns : goal.returns
returns c =
    let xs = c.args.pairs.now in
    let i = c.loop-p.p-index in
    let le : length xs ≤ i = omega arith in
    let a : rising c.loop-p.low (drop i xs) ≡ true = at_drop_all (rising c.loop-p.low) xs i le in
    let b : weighted (drop i xs) ≡ true = at_drop_all weighted xs i le in
    let t : weights (drop i xs) ≡ 0 = at_drop_all weights xs i le in
    grind (arith, nat_tests)
