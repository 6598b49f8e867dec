use Rattle.std.proofs.Common.{◌≡◌, ◌++◌, take, vec_items}
use Rattle.std.specs.List.{flat_map}
use Rattle.answers.specs.Books.{pair_text}
use Rattle.answers.proofs.tasks.write_pairs.Given as goal

abbrev pub invariant-loop-pair : goal.invariant-loop-pair
invariant-loop-pair l = vec_items l.out ≡ vec_items l.initial.out ++ flat_map pair_text (take l.pair-index l.pairs)
