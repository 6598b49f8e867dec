-- What holds of every line that is gathered, and of every script.
use Rattle.std.specs.Prelude.{◌≡◌, ℕ, Bool, true, not, ◌&&◌, List, [], ◌∷◌, ◌++◌, ◌==◌}
use Rattle.script.specs.Buffers.{gather, all_added, told, bounded_meaning}
use Rattle.script.specs.Replies.{line_reply, line_after}
use Rattle.script.specs.Scripts.{Progress, number, taken}

-- the bytes of a line, added one by one, are gathered
abbrev pub GathersLines : Type 0
GathersLines = (line : List ℕ) → all_added (gather []) line ≡ gather line

-- what is told of a line that was gathered is what the line means
abbrev pub TellsMeaning : Type 0
TellsMeaning = (line : List ℕ) → told (gather line) ≡ bounded_meaning line

-- no byte of the line is a line feed
abbrev pub no_feed : List ℕ → Bool
no_feed [] = true
no_feed (b ∷ bs) = not (b == 10) && no_feed bs

-- a whole line is done: it prints its answer, and the book goes where it leads
abbrev pub line_done : Progress → List ℕ → Progress
line_done p line =
    record {
      reading = record { chart = p.reading.chart; gathered = gather []; ended = number p.reading };
      state = line_after p.state (bounded_meaning line);
      text = p.text ++ line_reply p.reading.chart (number p.reading) p.state (bounded_meaning line);
    }

-- a script is done line by line, each by what it means
abbrev pub ReadsLines : Type 0
ReadsLines = (p : Progress) (line : List ℕ) → p.reading.gathered ≡ gather [] → no_feed line ≡ true → taken p (line ++ 10 ∷ []) ≡ line_done p line
