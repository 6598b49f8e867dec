-- What a buffer gathers of a line, byte by byte.
use Rattle.std.proofs.Common.{◌≡◌, ℕ, ◌<◌, ◌≤◌, Bool, true, cond, ltb, leb, List, [], ◌∷◌, ◌++◌, length, take, sym, refl, ap, ◌∙◌, ⊎_elim, arith}
use lib.Seq.{take-append-le}
use Rattle.std.proofs.lemmas.List.{append-nil, append_assoc, length-append, length-take-le, take_all}
use Rattle.std.proofs.lemmas.Bool.{cases_lt, cond-true, cond-false, lt-ltb, le-ltb, le-leb, lt-leb}
use Rattle.lines.specs.declared.reading.Line.TheVariants.{Passed, Unreadable}
use Rattle.lines.specs.Lines.{remark, meaning}
use Rattle.script.specs.Buffers.{Gathered, gather, added, all_added, overlong, told, bounded_meaning}

alike : (s t : List ℕ) (a b : Bool) → s ≡ t → a ≡ b → ◌≡◌ {A = Gathered} (record { text = s; more = a }) (record { text = t; more = b })
alike s t a b e f = λ i. record { text = e i; more = f i }

abbrev kept_on : Gathered → ℕ → Gathered
kept_on g b = record { text = g.text ++ b ∷ []; more = g.more }

abbrev dropped : Gathered → Gathered
dropped g = record { text = g.text; more = true }

room : (g : Gathered) (b : ℕ) → length g.text < 16384 → added g b ≡ kept_on g b
room g b h = cond-true (ltb (length g.text) 16384) (kept_on g b) (dropped g) (lt-ltb (length g.text) 16384 h)

no_room : (g : Gathered) (b : ℕ) → 16384 ≤ length g.text → added g b ≡ dropped g
no_room g b h = cond-false (ltb (length g.text) 16384) (kept_on g b) (dropped g) (le-ltb (length g.text) 16384 h)

-- one more byte of a line
pub gather_more : (line : List ℕ) (b : ℕ) → added (gather line) b ≡ gather (line ++ b ∷ [])
gather_more line b =
    let long = length-append line (b ∷ []) in
    ⊎_elim
    (λ few.
    let all = take_all 16384 line (omega arith) in
    let short : length (take 16384 line) < 16384 = omega (arith, ap length all) in
    room (gather line) b short
    ∙ alike _ _ _ _
    (ap (λ t. t ++ b ∷ []) all ∙ sym (take_all 16384 (line ++ b ∷ []) (omega arith)))
    (le-ltb 16384 (length line) (omega arith) ∙ sym (le-ltb 16384 (length (line ++ b ∷ [])) (omega arith))))
    (λ many.
    no_room (gather line) b (omega (arith, length-take-le 16384 line many))
    ∙ alike _ _ _ _ (sym (take-append-le 16384 line (b ∷ []) many)) (sym (lt-ltb 16384 (length (line ++ b ∷ [])) (omega arith))))
    (cases_lt (length line) 16384)

-- the bytes of a line after those that are gathered
pub gather_all : (before line : List ℕ) → all_added (gather before) line ≡ gather (before ++ line)
gather_all before [] = sym (ap gather (append-nil before))
gather_all before (b ∷ line) =
    ap (λ g. all_added g line) (gather_more before b)
    ∙ (gather_all (before ++ b ∷ []) line
    ∙ ap gather (append_assoc before (b ∷ []) line))

-- the first byte is kept
remark_kept : (line : List ℕ) → remark (take 16384 line) ≡ remark line
remark_kept [] = refl
remark_kept (b ∷ bs) = refl

-- what is told of a line that was gathered
pub told_gather : (line : List ℕ) → told (gather line) ≡ bounded_meaning line
told_gather line =
    ⊎_elim
    (λ over.
    cond-true (ltb 16384 (length line)) (overlong (take 16384 line)) _ (lt-ltb 16384 (length line) over)
    ∙ (ap (λ r. cond r Passed Unreadable) (remark_kept line)
    ∙ sym (cond-false (leb (length line) 16384) (meaning line) (overlong line) (lt-leb (length line) 16384 over))))
    (λ fits.
    cond-false (ltb 16384 (length line)) (overlong (take 16384 line)) _ (le-ltb 16384 (length line) fits)
    ∙ (ap meaning (take_all 16384 line fits)
    ∙ sym (cond-true (leb (length line) 16384) (meaning line) (overlong line) (le-leb (length line) 16384 fits))))
    (cases_lt 16384 (length line))
