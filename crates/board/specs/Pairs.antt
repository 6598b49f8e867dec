-- When a list of pairs is a time table.
use Rattle.std.specs.Prelude.{ℕ, ◌+◌, Bool, true, ◌&&◌, List, [], ◌∷◌, length, nat_le}
use Rattle.analysis.specs.declared.pair.Pair.{Pair}

-- the times rise strictly, from low on, up to 255
abbrev pub rising : ℕ → List Pair → Bool
rising low [] = true
rising low (p ∷ ps) = (nat_le low p.time && nat_le p.time 255) && rising (p.time + 1) ps

-- each weight is at least 1
abbrev pub weighted : List Pair → Bool
weighted [] = true
weighted (p ∷ ps) = nat_le 1 p.weight && weighted ps

-- the sum of the weights
abbrev pub weights : List Pair → ℕ
weights [] = 0
weights (p ∷ ps) = p.weight + weights ps

-- 1 to 16 pairs, times that rise strictly, weights of at least 1, and a sum of weights of at most 65,535
abbrev pub lawful : List Pair → Bool
lawful ps = nat_le 1 (length ps) && (nat_le (length ps) 16 && (rising 0 ps && (weighted ps && nat_le (weights ps) 65535)))

-- the opening table of a new draft: time 0 with weight 1
abbrev pub no_work : List Pair
no_work = record { time = 0; weight = 1 } ∷ []
