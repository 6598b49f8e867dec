-- A buffer of the bytes of one line, of which it keeps the first 16,384.
use Rattle.std.specs.Prelude.{ℕ, Bool, true, cond, List, [], ◌∷◌, ◌++◌, length, take, nat_le, nat_lt}
use Rattle.script.specs.declared.buffer.LineBuffer.{LineBuffer}
use Rattle.lines.specs.declared.reading.Line.{Line}
use Rattle.lines.specs.declared.reading.Line.TheVariants.{Passed, Unreadable}
use Rattle.lines.specs.Lines.{remark, meaning}

-- what is kept of a line, and whether there was more of it
pub record Gathered : Type 0 where
  pub text : List ℕ
  pub more : Bool

abbrev pub gathered : LineBuffer → Gathered
gathered b = record { text = b.bytes.items; more = b.over }

-- what a buffer gathers of a line
abbrev pub gather : List ℕ → Gathered
gather line = record { text = take 16384 line; more = nat_lt 16384 (length line) }

-- one more byte of the line
abbrev pub added : Gathered → ℕ → Gathered
added g b = cond (nat_lt (length g.text) 16384) (record { text = g.text ++ b ∷ []; more = g.more }) (record { text = g.text; more = true })

-- a line that is too long is passed over where it is a remark, and else unreadable
abbrev pub overlong : List ℕ → Line
overlong line = cond (remark line) Passed Unreadable

-- what a buffer tells of the line that it gathered
abbrev pub told : Gathered → Line
told g = cond g.more (overlong g.text) (meaning g.text)

-- what a line means, where it may be too long
abbrev pub bounded_meaning : List ℕ → Line
bounded_meaning line = cond (nat_le (length line) 16384) (meaning line) (overlong line)

-- several bytes more
abbrev pub all_added : Gathered → List ℕ → Gathered
all_added g [] = g
all_added g (b ∷ bs) = all_added (added g b) bs
