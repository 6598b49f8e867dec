-- The two moves rise and stay. Assumes nothing.
use Rattle.std.proofs.Common.{arith}
use Rattle.std.proofs.lemmas.Bool.Decides.{nat_tests}
use Rattle.theory.specs.Theorems.{MovesFair}

pub moves_fair : MovesFair
moves_fair = (
  λ g. record { rises = λ x x' t t' a b c. grind (arith, nat_tests); stays = λ x t h. grind (arith, nat_tests) },
  λ r. record { rises = λ x x' t t' a b c. grind (arith, nat_tests); stays = λ x t h. grind (arith, nat_tests) },
)
