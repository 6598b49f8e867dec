-- A script read byte by byte: where its reading stands, and what is printed.
use Rattle.std.specs.Prelude.{ℕ, ◌+◌, ◌-◌, ◌^◌, min, Bool, cond, List, [], ◌∷◌, ◌++◌, length, ◌==◌}
use Rattle.script.specs.declared.reading.Reading.{Reading}
use Rattle.script.specs.declared.scripts.ScriptBook.{ScriptBook}
use Rattle.script.specs.Buffers.{Gathered, gathered, gather, added, told}
use Rattle.script.specs.States.{State, state_of}
use Rattle.script.specs.Replies.{line_reply, line_after}

-- what a reading holds: whether charts are drawn, the line that is gathered, and how many lines were ended
pub record Held : Type 0 where
  pub chart : Bool
  pub gathered : Gathered
  pub ended : ℕ

abbrev pub held : Reading → Held
held r = record { chart = r.chart; gathered = gathered r.line; ended = r.ended }

-- a reading, the state of the book, and what is printed
pub record Progress : Type 0 where
  pub reading : Held
  pub state : State
  pub text : List ℕ

abbrev pub progress : Reading → ScriptBook → List ℕ → Progress
progress r b text = record { reading = held r; state = state_of b; text = text }

-- the number of the line that is gathered; the count stops at the largest number of 64 bits
abbrev pub number : Held → ℕ
number h = min (h.ended + 1) (2 ^ 64 - 1)

-- the line is ended, and answered
abbrev pub line_ended : Progress → Progress
line_ended p =
    record {
      reading = record { chart = p.reading.chart; gathered = gather []; ended = number p.reading };
      state = line_after p.state (told p.reading.gathered);
      text = p.text ++ line_reply p.reading.chart (number p.reading) p.state (told p.reading.gathered);
    }

-- one byte more: a line feed ends the line, and any other byte is gathered
abbrev pub byte_taken : Progress → ℕ → Progress
byte_taken p b =
    cond (b == 10)
    (line_ended p)
    (record {
      reading = record { chart = p.reading.chart; gathered = added p.reading.gathered b; ended = p.reading.ended };
      state = p.state;
      text = p.text;
    })

-- several bytes more
abbrev pub taken : Progress → List ℕ → Progress
taken p [] = p
taken p (b ∷ bs) = taken (byte_taken p b) bs

-- the script ends: a last line without a line feed is answered, unless it is empty
abbrev pub finished : Progress → Progress
finished p = cond (length p.reading.gathered.text == 0) p (line_ended p)
