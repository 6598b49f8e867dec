use Rattle.std.proofs.Common.{◌≤◌, length-take-le, arith}
use Rattle.analysis.proofs.passing.pass.Goals as goal

pub slice_bounds-fall-end-2 : goal.slice_bounds-fall-end-2
slice_bounds-fall-end-2 g c =
    let xs = c.args.sheet.now in
    let long = c.in_ok-long_enough.ensures in
    omega (arith, long, length-take-le 256 xs (omega (arith, long)), length-take-le 257 xs long)

pub fall-requires : goal.fall-requires
fall-requires g c =
    let xs = c.args.sheet.now in
    let long = c.in_ok-long_enough.ensures in
    omega (arith, long, length-take-le 256 xs (omega (arith, long)), length-take-le 257 xs long)
