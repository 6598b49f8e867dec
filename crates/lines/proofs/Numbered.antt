-- What decides whether a field is a number.
use Rattle.std.proofs.Common.{◌≡◌, ℕ, suc, ◌+◌, ◌-◌, ◌*◌, ◌<◌, ◌≤◌, Bool, true, false, cond, ◌&&◌, leb, List, [], ◌∷◌, length, get_or, drop, Some, None, Ok, Err, Result, OkIff, sym, refl, ap, ◌∙◌, ⊎_elim, arith}
use Rattle.std.proofs.lemmas.List.{at_drop_more, at_drop_all}
use Rattle.std.proofs.lemmas.Bool.{cases_lt, le-leb, lt-leb, and_from, and_left, and_right, cond-true, cond-false}
use Rattle.lines.specs.Numbers.{digit, all_digits, value_after, number, whole}
use Rattle.std.specs.Result.{result_ok}
use Rattle.lines.specs.Readings.{then}

-- more digits never make a value smaller
pub value_grows : (n : ℕ) (bs : List ℕ) → n ≤ value_after n bs
value_grows n [] = omega arith
value_grows n (b ∷ bs) = omega (arith, value_grows (n * 10 + (b - 48)) bs)

pub no_digit : (most : ℕ) (field : List ℕ) → length field ≡ 0 → number most field ≡ None
unfolding number
no_digit most field e = cond-false _ _ _ (and_left _ _ (lt-leb 1 (length field) (omega arith)))

pub other_byte : (most : ℕ) (field : List ℕ) → all_digits field ≡ false → number most field ≡ None
unfolding number
other_byte most field e = cond-false _ _ _ (and_right _ _ (and_left _ _ e))

pub too_large : (most : ℕ) (field : List ℕ) → most < value_after 0 field → number most field ≡ None
unfolding number
too_large most field h =
    let over : leb (value_after 0 field) most ≡ false = lt-leb (value_after 0 field) most h in
    cond-false _ (Some (value_after 0 field)) _ (and_right (leb 1 (length field)) _ (and_right (all_digits field) _ over))

pub its_value : (most : ℕ) (field : List ℕ) → 1 ≤ length field → all_digits field ≡ true → value_after 0 field ≤ most → number most field ≡ Some (value_after 0 field)
unfolding number
its_value most field some digits h =
    cond-true _ _ _ (and_from _ _ (le-leb 1 (length field) some) (and_from _ _ digits (le-leb (value_after 0 field) most h)))

-- at the byte i of a field: the value so far, with this digit, is past the limit
pub past_limit : (most v : ℕ) (field : List ℕ) (i : ℕ) → i < length field → value_after v (drop i field) ≡ value_after 0 field → most < v * 10 + (get_or field i 0 - 48) → number most field ≡ None
past_limit most v field i lt same over =
    let step : value_after v (drop i field) ≡ value_after (v * 10 + (get_or field i 0 - 48)) (drop (i + 1) field) = at_drop_more (value_after v) field i 0 lt in
    let grown = value_grows (v * 10 + (get_or field i 0 - 48)) (drop (i + 1) field) in
    too_large most field (omega arith)

-- at the byte i of a field: it is no digit
pub at_other_byte : (most : ℕ) (field : List ℕ) (i : ℕ) → i < length field → all_digits (drop i field) ≡ all_digits field → digit (get_or field i 0) ≡ false → number most field ≡ None
at_other_byte most field i lt same none =
    let step : all_digits (drop i field) ≡ (digit (get_or field i 0) && all_digits (drop (i + 1) field)) = at_drop_more all_digits field i 0 lt in
    other_byte most field (sym same ∙ (step ∙ and_left _ _ none))

-- one digit further
pub one_further : (v d next : ℕ) (field : List ℕ) (i : ℕ) → i < length field → all_digits (drop i field) ≡ all_digits field → value_after v (drop i field) ≡ value_after 0 field → digit (get_or field i 0) ≡ true → d ≡ get_or field i 0 - 48 → next ≡ v * 10 + d → (all_digits (drop (i + 1) field) ≡ all_digits field) × (value_after next (drop (i + 1) field) ≡ value_after 0 field)
one_further v d next field i lt same value is d-is next-is =
    let digits : all_digits (drop i field) ≡ (digit (get_or field i 0) && all_digits (drop (i + 1) field)) = at_drop_more all_digits field i 0 lt in
    let step : value_after v (drop i field) ≡ value_after (v * 10 + (get_or field i 0 - 48)) (drop (i + 1) field) = at_drop_more (value_after v) field i 0 lt in
    let n : next ≡ v * 10 + (get_or field i 0 - 48) = omega arith in (
      sym (ap (λ b. b && all_digits (drop (i + 1) field)) is) ∙ (sym digits ∙ same),
      ap (λ m. value_after m (drop (i + 1) field)) n ∙ (sym step ∙ value),
    )

-- past the last byte
pub all_read : (v : ℕ) (field : List ℕ) (i : ℕ) → length field ≤ i → all_digits (drop i field) ≡ all_digits field → value_after v (drop i field) ≡ value_after 0 field → (all_digits field ≡ true) × (value_after 0 field ≡ v)
all_read v field i le same value = (sym same ∙ at_drop_all all_digits field i le, sym value ∙ at_drop_all (value_after v) field i le)

limited : (most v : ℕ) (a b : Bool) → most ≤ 18446744073709551615 → cond (a && (b && leb v most)) (Some v) None ≡ then (cond (a && (b && leb v 18446744073709551615)) (Some v) None) (λ n. cond (leb n most) (Some n) None)
limited most v false b h = refl
limited most v true false h = refl
limited most v true true h =
    ⊎_elim
    (λ over. rw (lt-leb v most (omega arith), lt-leb v 18446744073709551615 over) refl)
    (λ fits. rw (le-leb v 18446744073709551615 fits) refl)
    (cases_lt 18446744073709551615 v)

-- a smaller limit, after the largest
pub within_limit : (most : ℕ) (field : List ℕ) → most ≤ 18446744073709551615 → number most field ≡ then (whole field) (λ n. cond (leb n most) (Some n) None)
unfolding number
within_limit most field h = limited most (value_after 0 field) (leb 1 (length field)) (all_digits field) h

-- no number of 64 bits is no smaller one
pub no_smaller : (most : ℕ) (field : List ℕ) → most ≤ 18446744073709551615 → None ≡ whole field → None ≡ number most field
no_smaller most field h e = sym (within_limit most field h ∙ ap (λ o. then o (λ n. cond (leb n most) (Some n) None)) (sym e))

-- a number of 64 bits, as a conversion to a smaller type leaves it
pub smaller : {E : Type 0} (most : ℕ) (field : List ℕ) (n : ℕ) (r : Result ℕ E) → most ≤ 18446744073709551615 → Some n ≡ whole field → OkIff r (n < suc most) n → result_ok r ≡ number most field
smaller most field n (Ok x) h e is =
    let all : number most field ≡ cond (leb n most) (Some n) None = within_limit most field h ∙ ap (λ o. then o (λ m. cond (leb m most) (Some m) None)) (sym e) in
    ap Some is.1 ∙ sym (all ∙ cond-true (leb n most) (Some n) None (le-leb n most (omega (arith, is.0))))
smaller most field n (Err x) h e is =
    let all : number most field ≡ cond (leb n most) (Some n) None = within_limit most field h ∙ ap (λ o. then o (λ m. cond (leb m most) (Some m) None)) (sym e) in
    let over : most < n = ⊎_elim (λ m. m) (λ fits. absurd (is (omega arith))) (cases_lt most n) in
    sym (all ∙ cond-false (leb n most) (Some n) None (lt-leb n most over))
