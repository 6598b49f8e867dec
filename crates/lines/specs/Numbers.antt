-- The numbers of a line: decimal digits, with any number of leading noughts.
use Rattle.std.specs.Prelude.{ℕ, ◌+◌, ◌-◌, ◌*◌, Bool, true, cond, ◌&&◌, List, [], ◌∷◌, length, Some, None, Option, nat_le}

-- the digits 0 to 9
abbrev pub digit : ℕ → Bool
digit b = nat_le 48 b && nat_le b 57

abbrev pub all_digits : List ℕ → Bool
all_digits [] = true
all_digits (b ∷ bs) = digit b && all_digits bs

-- the value of digits that follow a number
abbrev pub value_after : ℕ → List ℕ → ℕ
value_after n [] = n
value_after n (b ∷ bs) = value_after (n * 10 + (b - 48)) bs

-- the number that a field is: one digit or more, with a value that is at most the limit
unfoldable pub number : ℕ → List ℕ → Option ℕ
number most field = cond (nat_le 1 (length field) && (all_digits field && nat_le (value_after 0 field) most)) (Some (value_after 0 field)) None

-- 8 bits: a place, a deadline, a time, and the number of rounds
abbrev pub byte : List ℕ → Option ℕ
byte = number 255

-- 16 bits: a period, a phase and a weight
abbrev pub word : List ℕ → Option ℕ
word = number 65535

-- 32 bits: an index and a round
abbrev pub long : List ℕ → Option ℕ
long = number 4294967295

-- 64 bits: a rank
abbrev pub whole : List ℕ → Option ℕ
whole = number 18446744073709551615
