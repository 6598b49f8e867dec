-- The first field of a line.
use Rattle.std.proofs.Common.{◌≡◌, ℕ, suc, ◌+◌, ◌-◌, ◌≤◌, Bool, true, false, cond, not, ltb, List, [], ◌∷◌, length, take, drop, Some, None, Option, sym, refl, ap, ◌∙◌, subst, ⊎_elim, arith}
use Rattle.std.proofs.lemmas.List.{length-drop}
use Rattle.std.proofs.lemmas.List.Recursion.{is_position_or_len}
use Rattle.std.proofs.lemmas.Bool.{cond-true, cond-false, cases_Bool, cases_lt, lt-ltb, le-ltb}
use Rattle.std.specs.List.{position, position_or_len}
use Rattle.std.specs.Option.{unwrap_or}
use Rattle.lines.specs.Fields.{blank, joined, pieces, filled, fields}
use Rattle.lines.proofs.Marked.{no_place, place}

-- how many bytes at the front are blanks
abbrev pub blanks_ahead : List ℕ → ℕ
blanks_ahead [] = 0
blanks_ahead (b ∷ bs) = cond (blank b) (suc (blanks_ahead bs)) 0

-- how many bytes stand before the first blank
abbrev pub first_blank : List ℕ → ℕ
first_blank [] = 0
first_blank (b ∷ bs) = cond (blank b) 0 (suc (first_blank bs))

one_more : (n : ℕ) → suc n ≡ 1 + n
one_more n = omega arith

turned : (v : Bool) (n : ℕ) → cond v (suc n) 0 ≡ cond (not v) 0 (1 + n)
turned true n = one_more n
turned false n = refl

-- both counts, as the library counts them
blanks_place : (bs : List ℕ) → blanks_ahead bs ≡ position_or_len (λ b. not (blank b)) bs
blanks_place = is_position_or_len blanks_ahead (λ b. not (blank b)) refl (λ b bs. turned (blank b) (blanks_ahead bs))

first_place : (bs : List ℕ) → first_blank bs ≡ position_or_len blank bs
first_place = is_position_or_len first_blank blank refl (λ b bs. ap (λ n. cond (blank b) 0 n) (one_more (first_blank bs)))

-- neither count passes the end
pub blanks_within : (bs : List ℕ) → blanks_ahead bs ≤ length bs
blanks_within [] = omega arith
blanks_within (b ∷ bs) = elim (blank b) as (λ v. cond v (suc (blanks_ahead bs)) 0 ≤ suc (length bs)) [ true ↦ omega (arith, blanks_within bs) | false ↦ omega arith ]

pub first_within : (bs : List ℕ) → first_blank bs ≤ length bs
first_within [] = omega arith
first_within (b ∷ bs) = elim (blank b) as (λ v. cond v 0 (suc (first_blank bs)) ≤ suc (length bs)) [ true ↦ omega arith | false ↦ omega (arith, first_within bs) ]

-- a blank ahead changes no field
pub after_blank : (b : ℕ) (bs : List ℕ) → blank b ≡ true → fields (b ∷ bs) ≡ fields bs
unfolding fields pieces filled
after_blank b bs e = ap filled (cond-true _ _ _ e)

-- nor do the blanks ahead
pub after_blanks : (bs : List ℕ) → fields bs ≡ fields (drop (blanks_ahead bs) bs)
after_blanks [] = refl
after_blanks (b ∷ bs) =
    ⊎_elim
    (λ e. after_blank b bs e ∙ (after_blanks bs ∙ sym (ap (λ n. fields (drop n (b ∷ bs))) (cond-true (blank b) (suc (blanks_ahead bs)) 0 e))))
    (λ e. sym (ap (λ n. fields (drop n (b ∷ bs))) (cond-false (blank b) (suc (blanks_ahead bs)) 0 e)))
    (cases_Bool (blank b))

-- the first piece ends at the first blank, and the fields of the others are those from there on
abbrev pub Cut : List ℕ → ℕ → Type 0
Cut bs n = (qs : List (List ℕ)) × (pieces bs ≡ take n bs ∷ qs) × (filled qs ≡ fields (drop n bs))

cut_at_blank : (b : ℕ) (bs : List ℕ) → blank b ≡ true → Cut (b ∷ bs) 0
unfolding fields pieces
cut_at_blank b bs e = (pieces bs, cond-true (blank b) _ _ e, sym (after_blank b bs e))

cut_after : (b : ℕ) (bs : List ℕ) (n : ℕ) → blank b ≡ false → Cut bs n → Cut (b ∷ bs) (suc n)
unfolding pieces
cut_after b bs n e h = (h.0, cond-false (blank b) ([] ∷ pieces bs) _ e ∙ ap (joined b) h.1, h.2)

pub cut : (bs : List ℕ) → Cut bs (first_blank bs)
unfolding fields pieces filled
cut [] = ([], refl, refl)
cut (b ∷ bs) =
    ⊎_elim
    (λ e. subst (Cut (b ∷ bs)) (sym (cond-true (blank b) 0 (suc (first_blank bs)) e)) (cut_at_blank b bs e))
    (λ e. subst (Cut (b ∷ bs)) (sym (cond-false (blank b) 0 (suc (first_blank bs)) e)) (cut_after b bs (first_blank bs) e (cut bs)))
    (cases_Bool (blank b))

-- the first field of a line that starts with one
first_field_at : (b : ℕ) (bs : List ℕ) (n : ℕ) → Cut (b ∷ bs) (suc n) → fields (b ∷ bs) ≡ take (suc n) (b ∷ bs) ∷ fields (drop (suc n) (b ∷ bs))
unfolding fields filled
first_field_at b bs n h = ap filled h.1 ∙ ap (λ fs. (b ∷ take n bs) ∷ fs) h.2

pub first_field : (bs : List ℕ) → 1 ≤ first_blank bs → fields bs ≡ take (first_blank bs) bs ∷ fields (drop (first_blank bs) bs)
first_field [] h = absurd (omega arith)
first_field (b ∷ bs) h =
    ⊎_elim
    (λ e. absurd (omega (arith, cond-true (blank b) 0 (suc (first_blank bs)) e)))
    (λ e.
    let is = cond-false (blank b) 0 (suc (first_blank bs)) e in
    subst (λ n. fields (b ∷ bs) ≡ take n (b ∷ bs) ∷ fields (drop n (b ∷ bs))) (sym is) (first_field_at b bs (first_blank bs) (subst (Cut (b ∷ bs)) is (cut (b ∷ bs)))))
    (cases_Bool (blank b))

-- after the blanks ahead there is the end, or a field
pub starts_field : (bs : List ℕ) → 1 ≤ length (drop (blanks_ahead bs) bs) → 1 ≤ first_blank (drop (blanks_ahead bs) bs)
starts_field [] h = absurd (omega arith)
starts_field (b ∷ bs) h =
    ⊎_elim
    (λ e.
    let is = cond-true (blank b) (suc (blanks_ahead bs)) 0 e in
    subst (λ n. 1 ≤ first_blank (drop n (b ∷ bs))) (sym is) (starts_field bs (subst (λ n. 1 ≤ length (drop n (b ∷ bs))) is h)))
    (λ e.
    let is = cond-false (blank b) (suc (blanks_ahead bs)) 0 e in
    subst (λ n. 1 ≤ first_blank (drop n (b ∷ bs))) (sym is) (omega (arith, cond-false (blank b) 0 (suc (first_blank bs)) e)))
    (cases_Bool (blank b))

-- an empty line has no field
pub no_field : (bs : List ℕ) → length bs ≡ 0 → fields bs ≡ []
unfolding fields pieces filled
no_field [] h = refl
no_field (b ∷ bs) h = absurd (omega arith)

-- where no byte is anything but a blank
pub none_left : (bs : List ℕ) → None ≡ position (λ b. not (blank b)) bs → fields bs ≡ []
none_left bs e =
    let past : length bs ≤ blanks_ahead bs = omega (arith, blanks_place bs, no_place (λ b. not (blank b)) bs e) in
    let all : length (drop (blanks_ahead bs) bs) ≡ length bs - blanks_ahead bs = length-drop (blanks_ahead bs) bs in
    after_blanks bs ∙ no_field (drop (blanks_ahead bs) bs) (omega arith)

-- the place of the first blank, or the end
pub its_width : (line : List ℕ) (o : Option ℕ) → o ≡ position blank line → unwrap_or o (length line) ≡ first_blank line
its_width line o e =
    let n = position_or_len blank line in
    let within = first_within line in
    let is = first_place line in
    ap (λ p. unwrap_or p (length line)) e
    ∙ ⊎_elim
    (λ few. ap (λ p. unwrap_or p (length line)) (cond-true (ltb n (length line)) (Some n) None (lt-ltb n (length line) few)) ∙ sym is)
    (λ many. ap (λ p. unwrap_or p (length line)) (cond-false (ltb n (length line)) (Some n) None (le-ltb n (length line) many)) ∙ omega arith)
    (cases_lt n (length line))

-- a line is its first field, after the blanks ahead, and the fields of what follows it
pub next_field : (bs line field rest : List ℕ) (ahead width : ℕ) → Some ahead ≡ position (λ b. not (blank b)) bs → line ≡ drop ahead bs → width ≡ first_blank line → field ≡ take width line → rest ≡ drop width line → fields bs ≡ field ∷ fields rest
next_field bs line field rest ahead width at l w f r =
    let found = place (λ b. not (blank b)) bs ahead at in
    let a : ahead ≡ blanks_ahead bs = found.0 ∙ sym (blanks_place bs) in
    let less : length line ≡ length bs - ahead = ap length l ∙ length-drop ahead bs in
    let some : 1 ≤ length line = omega (arith, found.1) in
    let same : line ≡ drop (blanks_ahead bs) bs = subst (λ n. line ≡ drop n bs) a l in
    let starts : 1 ≤ first_blank line = subst (λ s. 1 ≤ first_blank s) (sym same) (starts_field bs (subst (λ s. 1 ≤ length s) same some)) in
    let first : fields line ≡ take width line ∷ fields (drop width line) = subst (λ n. fields line ≡ take n line ∷ fields (drop n line)) (sym w) (first_field line starts) in
    after_blanks bs ∙ (ap fields (sym same) ∙ (first ∙ (ap (λ s. s ∷ fields (drop width line)) (sym f) ∙ ap (λ s. field ∷ fields s) (sym r))))
