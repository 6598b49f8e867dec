-- Texts one after the other, and the texts of numbers and of the elements of kinds.
use Rattle.std.specs.Prelude.{◌≡◌, ℕ, zero, suc, false, cond, List, [], ◌++◌, codes, decimal, ◌==◌}
use Rattle.std.proofs.Common.{refl, ap}
use Rattle.std.proofs.lemmas.Bool.{both_ways}
use Rattle.kinds.specs.declared.possible.Possible.{Possible}
use Rattle.kinds.specs.declared.possible.Possible.TheVariants.{No, Yes}

-- the texts of 0 to n - 1, one after the other
unfoldable pub in_turn : (ℕ → List ℕ) → ℕ → List ℕ
in_turn text zero = []
in_turn text (suc n) = in_turn text n ++ text n

-- a text, unless the size is that of nought
abbrev pub unless_nought : ℕ → List ℕ → List ℕ
unless_nought size text = cond (size == 0) [] text

-- the number of a possibility
abbrev pub possible_size : Possible → ℕ
possible_size No = 0
possible_size Yes = 1

-- no possibility but No has the number 0
pub possible_alone : (x : Possible) → possible_size x ≡ 0 → x ≡ No
possible_alone No e = refl
possible_alone Yes e = absurd (both_ways false refl (ap (λ n. n == 0) e))

-- the text of a possibility
abbrev pub possible_text : Possible → List ℕ
possible_text No = codes "no"
possible_text Yes = codes "yes"

-- a label, and a number in decimal
abbrev pub field : List ℕ → ℕ → List ℕ
field label n = label ++ decimal n

-- a label, and the number that ends the line
abbrev pub ending : List ℕ → ℕ → List ℕ
ending label n = field label n ++ codes "\n"
