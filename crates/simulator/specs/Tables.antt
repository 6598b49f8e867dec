-- What makes a time table, and what a table of the simulator holds.
use Rattle.std.specs.Prelude.{◌≡◌, ℕ, ◌+◌, Bool, true, false, cond, List, [], ◌∷◌, length, take, replicate, nat_le, nat_lt}
use Rattle.simulator.specs.declared.tables.SimPair.{SimPair}
use Rattle.simulator.specs.declared.tables.SimTable.{SimTable}

-- the sum of the weights
abbrev pub total : List SimPair → ℕ
total [] = 0
total (pair ∷ pairs) = pair.weight + total pairs

-- whether the time is at least this and at most 255, and the weight 1 to 65,535
abbrev pub fits : ℕ → SimPair → Bool
fits least pair =
    cond (nat_lt pair.time least)
    false
    (cond (nat_lt 255 pair.time)
    false
    (cond (nat_le 1 pair.weight) (nat_le pair.weight 65535) false))

-- whether every pair fits, and each time is above the one before it
abbrev pub rising : ℕ → List SimPair → Bool
rising least [] = true
rising least (pair ∷ pairs) = cond (fits least pair) (rising (pair.time + 1) pairs) false

-- whether the pairs make a time table: 1 to 16 of them, times that rise, a total of at most 65,535
abbrev pub lawful : List SimPair → Bool
lawful pairs = cond
    (nat_lt (length pairs) 1)
    false
    (cond
    (nat_lt 16 (length pairs))
    false
    (cond (rising 0 pairs) (nat_le (total pairs) 65535) false))

-- the table with the one pair (time 0, weight 1)
abbrev pub no_work : SimTable
no_work = record { pairs = replicate 16 (record { time = 0; weight = 1 }); len = 1 }

-- the first pairs of the table, as many as its length says, are the listed ones
abbrev pub Holds : SimTable → List SimPair → Type 0
Holds table pairs = (table.len ≡ length pairs) × (take table.len table.pairs ≡ pairs)
