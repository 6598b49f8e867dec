use Rattle.std.proofs.Common.{◌≡◌, ℕ, ◌-◌, ◌+◌, ◌≤◌, List, ◌++◌, length, get_or, drop, arith}
use Rattle.std.proofs.lemmas.List.{length-take-le, get_or-append_right, get_or-drop}
use Rattle.simulator.proofs.answers.fill.Goals as goal

-- what lies past the front is not changed where the front is replaced by one as long
past_front :
    (front all : List ℕ) (n k : ℕ)
    → length front ≡ n
    → n ≤ k
    → get_or (front ++ drop n all) k 0 ≡ get_or all k 0
past_front front all n k same past =
    let moved : n + (k - n) ≡ k = omega arith in
    rw (get_or-append_right front (drop n all) n k 0 same past, get_or-drop n all (k - n) 0, moved)

pub copy_from_slice-requires : goal.copy_from_slice-requires
copy_from_slice-requires c = omega (arith, length-take-le 257 c.args.cells.now c.requires)

pub returns : goal.returns
returns c = λ k past.
    past_front
    c.copy_from_slice.new.self
    c.args.cells.now
    257
    k
    (omega (arith, length-take-le 257 c.args.cells.now c.requires))
    past
