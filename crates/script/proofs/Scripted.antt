-- A script that is read line by line.
use Rattle.std.proofs.Common.{◌≡◌, ℕ, true, false, not, eqb, List, [], ◌∷◌, ◌++◌, refl, ap, ◌∙◌, arith}
use Rattle.std.proofs.lemmas.Bool.{and_parts, cond-false}
use Rattle.std.proofs.lemmas.Bool.Decides.{nat_tests}
use Rattle.lines.specs.declared.reading.Line.{Line}
use Rattle.script.specs.Buffers.{Gathered, gather, added, all_added, told}
use Rattle.script.specs.Replies.{line_reply, line_after}
use Rattle.script.specs.Scripts.{Progress, number, line_ended, byte_taken, taken}
use Rattle.script.specs.Laws.{no_feed, line_done}
use Rattle.script.proofs.Buffered.{gather_all, told_gather}

-- the progress with another line gathered
abbrev gathering : Progress → Gathered → Progress
gathering p g =
    record { reading = record { chart = p.reading.chart; gathered = g; ended = p.reading.ended }; state = p.state; text = p.text }

not_feed : (b : ℕ) (bs : List ℕ) → no_feed (b ∷ bs) ≡ true → eqb b 10 ≡ false
not_feed b bs ok = grind (arith, nat_tests)

-- a byte that is no line feed is gathered
plain_byte : (p : Progress) (b : ℕ) → eqb b 10 ≡ false → byte_taken p b ≡ gathering p (added p.reading.gathered b)
plain_byte p b h = cond-false (eqb b 10) (line_ended p) (gathering p (added p.reading.gathered b)) h

-- so is a line, and the line feed after it ends it
line_gathered : (p : Progress) (line : List ℕ) → no_feed line ≡ true → taken p (line ++ 10 ∷ []) ≡ line_ended (gathering p (all_added p.reading.gathered line))
line_gathered p [] ok = refl
line_gathered p (b ∷ bs) ok =
    ap (λ q. taken q (bs ++ 10 ∷ [])) (plain_byte p b (not_feed b bs ok))
    ∙ line_gathered (gathering p (added p.reading.gathered b)) bs (and_parts (not (eqb b 10)) (no_feed bs) ok).1

-- a line that was told is done
abbrev told_line : Progress → Line → Progress
told_line p l =
    record {
      reading = record { chart = p.reading.chart; gathered = gather []; ended = number p.reading };
      state = line_after p.state l;
      text = p.text ++ line_reply p.reading.chart (number p.reading) p.state l;
    }

pub reads_lines : (p : Progress) (line : List ℕ) → p.reading.gathered ≡ gather [] → no_feed line ≡ true → taken p (line ++ 10 ∷ []) ≡ line_done p line
reads_lines p line start ok =
    line_gathered p line ok
    ∙ ap (told_line p) (ap (λ g. told (all_added g line)) start ∙ ap told (gather_all [] line) ∙ told_gather line)
