-- The pairs of a table, each a time and a weight with a colon between them.
use Rattle.std.specs.Prelude.{ℕ, ◌-◌, cond, List, [], ◌∷◌, length, take, replicate, Some, Option, nat_lt}
use Rattle.std.specs.Option.{option_map}
use Rattle.analysis.specs.declared.pair.Pair.{Pair}
use Rattle.analysis.specs.ShortList.{with_item}
use Rattle.lines.specs.declared.tables.PairList.{PairList}
use Rattle.lines.specs.Numbers.{byte, word}
use Rattle.lines.specs.Readings.{then, cut}

-- a time, a colon and a weight; a second colon is no digit of the weight
abbrev pub pair : List ℕ → Option Pair
pair field =
    then (cut 58 field) (λ c. then (byte c.0) (λ t. then (word c.1) (λ w. Some (record { time = t; weight = w }))))

-- the pairs that the fields are, one each
abbrev pub pairs : List (List ℕ) → Option (List Pair)
pairs [] = Some []
pairs (f ∷ fs) = then (pair f) (λ p. option_map (λ ps. p ∷ ps) (pairs fs))

-- what fills the places that are not used
abbrev pub blank_pair : Pair
blank_pair = record { time = 0; weight = 0 }

-- the first seventeen of a list of pairs, as they are held
unfoldable pub kept : List Pair → PairList
kept ps = record { held = record { items = take 17 ps; spare = replicate (17 - length ps) blank_pair } }

-- the pairs that are held, at most seventeen
abbrev pub listed : PairList → List Pair
listed t = t.held.items

-- one more pair, unless seventeen are held
abbrev pub with_pair : PairList → Pair → PairList
with_pair t p = cond (nat_lt (length (listed t)) 17) (record { held = with_item t.held p }) t
