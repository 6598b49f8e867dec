-- The lines of a report, and how long they are.
use Rattle.std.proofs.Common.{◌≡◌, ℕ, suc, ◌+◌, ◌*◌, ◌^◌, ◌<◌, ◌≤◌, List, [], ◌++◌, length, get_or, Some, None, codes, Option, Result, sym, refl, ap, ◌∙◌, add-one, arith}
use Rattle.std.proofs.lemmas.List.{length-append, append_assoc}
use Rattle.book.specs.declared.lateness.TaskLateness.{TaskLateness}
use Rattle.board.specs.Model.{Entry, Book}
use Rattle.book.specs.Asks.{task_answer}
use Rattle.planfile.specs.Reports.{field, line, refused_line, answer_line, by_deadline, header, place_line, place_lines}
use Rattle.planfile.proofs.Written.{length_field, field_short}

two_long : (s t : List ℕ) (k m : ℕ) → length s ≤ k → length t ≤ m → length (s ++ t) ≤ k + m
two_long s t k m p q = let a = length-append s t in omega arith

pub line_long : (a b c k l m : ℕ) → length (field a 32) ≤ k → length (field b 32) ≤ l → length (field c 10) ≤ m → length (line a b c) ≤ k + (l + m)
line_long a b c k l m p q r = two_long (field a 32) (field b 32 ++ field c 10) k (l + m) p (two_long (field b 32) (field c 10) l m q r)

pub line_short : (a b c : ℕ) → a < 2 ^ 64 → b < 2 ^ 64 → c < 2 ^ 64 → length (line a b c) ≤ 63
line_short a b c p q r = line_long a b c 21 21 21 (field_short a 32 p) (field_short b 32 q) (field_short c 10 r)

-- a place of at most two digits, at most 64 jobs, and a sum of at most eight digits
pub answer_short : (place jobs late : ℕ) → place < 16 → jobs ≤ 64 → late ≤ 1048576 * jobs → length (line place jobs late) ≤ 15
answer_short place jobs late p q r =
    line_long place jobs late 3 3 9
    (length_field 2 place 32 (omega arith) (omega arith) (omega arith))
    (length_field 2 jobs 32 (omega arith) (omega arith) (omega arith))
    (length_field 8 late 10 (omega arith) (omega arith) (omega arith))

pub refused_short : (place n : ℕ) → place < 16 → n < 256 → length (refused_line place n) ≤ 15
refused_short place n p q =
    two_long (field place 32) (codes "refused " ++ field n 10) 3 12
    (length_field 2 place 32 (omega arith) (omega arith) (omega arith))
    (two_long (codes "refused ") (field n 10) 8 4 (omega arith) (length_field 3 n 10 (omega arith) (omega arith) (omega arith)))

-- the line of an occupied place
pub place_line_is : (b : Book) (place : ℕ) (o : Option Entry) (e : Entry) (r : Result TaskLateness ℕ) → Some e ≡ o → r ≡ task_answer by_deadline b place 0 257 257 → answer_line place r ≡ place_line b place o
place_line_is b place o e r h k = ap (answer_line place) k ∙ ap (place_line b place) h

pub lines_none : (b : Book) → place_lines b 0 ≡ []
unfolding place_lines
lines_none b = refl

lines_suc : (b : Book) (n : ℕ) → place_lines b (suc n) ≡ place_lines b n ++ place_line b n (get_or b.places n None)
unfolding place_lines
lines_suc b n = refl

pub lines_more : (b : Book) (n : ℕ) → header ++ place_lines b (n + 1) ≡ (header ++ place_lines b n) ++ place_line b n (get_or b.places n None)
lines_more b n =
    let e : n + 1 ≡ suc n = add-one n in
    ap (λ k. header ++ place_lines b k) e ∙ (ap (λ s. header ++ s) (lines_suc b n) ∙ sym (append_assoc header (place_lines b n) (place_line b n (get_or b.places n None))))
