-- The first place of a mark.
use Rattle.std.proofs.Common.{◌≡◌, ℕ, suc, ◌+◌, ◌-◌, ◌<◌, ◌≤◌, Bool, true, false, cond, not, ltb, eqb, List, [], ◌∷◌, length, take, drop, Some, None, sym, refl, ap, ◌∙◌, subst, ⊎_elim, arith}
use Rattle.std.specs.Option.{option_map}
use Rattle.std.specs.List.{position, position_or_len}
use Rattle.std.proofs.lemmas.List.{take_all, length-drop}
use Rattle.std.proofs.lemmas.Bool.{cond-true, cond-false, cases_lt, lt-ltb, le-ltb}
use Rattle.lines.specs.Readings.{cut}

module _ {X : Type 0} (p : X → Bool) (xs : List X) where
  -- no element passes
  pub no_place : None ≡ position p xs → length xs ≤ position_or_len p xs
  no_place e =
      ⊎_elim
      (λ few. let s = cond-true (ltb (position_or_len p xs) (length xs)) (Some (position_or_len p xs)) None (lt-ltb (position_or_len p xs) (length xs) few) in cc)
      (λ many. many)
      (cases_lt (position_or_len p xs) (length xs))

  -- the first that passes
  pub place : (i : ℕ) → Some i ≡ position p xs → (i ≡ position_or_len p xs) × (i < length xs)
  place i e =
      ⊎_elim
      (λ few.
      let s = cond-true (ltb (position_or_len p xs) (length xs)) (Some (position_or_len p xs)) None (lt-ltb (position_or_len p xs) (length xs) few) in
      let same : i ≡ position_or_len p xs = cc in (same, omega arith))
      (λ many. let s = cond-false (ltb (position_or_len p xs) (length xs)) (Some (position_or_len p xs)) None (le-ltb (position_or_len p xs) (length xs) many) in cc)
      (cases_lt (position_or_len p xs) (length xs))

abbrev after_byte : ℕ → List ℕ × List ℕ → List ℕ × List ℕ
after_byte b c = (b ∷ c.0, c.1)

-- the bytes are cut at n, or nowhere where n is past the end
abbrev CutAt : ℕ → List ℕ → ℕ → Type 0
CutAt mark bs n = (n < length bs → cut mark bs ≡ Some (take n bs, drop (suc n) bs)) × (length bs ≤ n → cut mark bs ≡ None)

one_byte_more : (mark b : ℕ) (bs : List ℕ) (n : ℕ) → CutAt mark bs n → (v : Bool) → eqb b mark ≡ v → CutAt mark (b ∷ bs) (cond (not v) (1 + n) 0)
unfolding cut
one_byte_more mark b bs n h true e = (λ lt. cond-true (eqb b mark) _ _ e, λ le. absurd (omega arith))
one_byte_more mark b bs n h false e =
    let step = cond-false (eqb b mark) (Some ([], bs)) (option_map (after_byte b) (cut mark bs)) e in
    let one : suc n ≡ 1 + n = omega arith in
    subst (CutAt mark (b ∷ bs)) one (λ lt. step ∙ ap (option_map (after_byte b)) (h.0 (omega arith)), λ le. step ∙ ap (option_map (after_byte b)) (h.1 (omega arith)))

cut_first : (mark : ℕ) (bs : List ℕ) → CutAt mark bs (position_or_len (λ b. eqb b mark) bs)
unfolding cut
cut_first mark [] = (λ lt. absurd (omega arith), λ le. refl)
cut_first mark (b ∷ bs) = one_byte_more mark b bs (position_or_len (λ b. eqb b mark) bs) (cut_first mark bs) (eqb b mark) refl

-- the mark is nowhere
pub cut_nowhere : (mark : ℕ) (bs : List ℕ) → None ≡ position (λ b. eqb b mark) bs → cut mark bs ≡ None
cut_nowhere mark bs e = (cut_first mark bs).1 (no_place (λ b. eqb b mark) bs e)

-- the two parts, as slices of the bytes
pub cut_parts : (mark : ℕ) (bs : List ℕ) (i : ℕ) → Some i ≡ position (λ b. eqb b mark) bs → cut mark bs ≡ Some (take i bs, take (length bs - (i + 1)) (drop (i + 1) bs))
cut_parts mark bs i e =
    let found = place (λ b. eqb b mark) bs i e in
    let one : suc i ≡ i + 1 = omega arith in
    let long = length-drop (i + 1) bs in
    let here : cut mark bs ≡ Some (take i bs, drop (suc i) bs) = subst (λ n. cut mark bs ≡ Some (take n bs, drop (suc n) bs)) (sym found.0) ((cut_first mark bs).0 (omega (arith, found.0, found.1))) in
    here ∙ ap (λ l. Some (take i bs, l)) (ap (λ n. drop n bs) one ∙ sym (take_all (length bs - (i + 1)) (drop (i + 1) bs) (omega arith)))
