-- The ranks of a table, each between two commas.
use Rattle.std.proofs.Common.{◌≡◌, ◌≢◌, ℕ, zero, suc, ◌+◌, ◌<◌, ◌≤◌, Bool, true, false, cond, eqb, List, [], ◌∷◌, ◌++◌, length, Some, None, Ok, Err, Option, Result, MatchResult, sym, refl, ap, ◌∙◌, ⊎_elim, arith}
use Rattle.std.specs.Option.{option_map}
use Rattle.std.specs.Result.{result_ok}
use Rattle.std.specs.Array.{IsWholeChunk}
use Rattle.std.proofs.lemmas.Iterator.{YieldsList}
use Rattle.analysis.specs.ShortList.{ShortList, with_item}
use Rattle.std.specs.List.{slice_split, onto_first}
use Rattle.std.proofs.lemmas.List.{append-nil, length-append}
use Rattle.std.proofs.lemmas.List.Splits.{length-slice_split}
use Rattle.std.proofs.lemmas.Bool.{cond-true, cond-false, cases_Bool, and_left, and_right, eqb-true, eqb-false, eq-eqb, ne_eqb}
use Rattle.lines.specs.Numbers.{digit, all_digits, whole}
use Rattle.lines.specs.Readings.{then, cut}
use Rattle.lines.specs.Rules.{ranks}
use Rattle.lines.proofs.Held.{both}
use Rattle.lines.proofs.Numbered.{other_byte}

-- what stands between the commas
abbrev pub parts : List ℕ → List (List ℕ)
parts bs = slice_split (λ b. eqb b 44) bs

-- all of them, as ranks
abbrev pub readings : List (List ℕ) → Option (List ℕ)
readings [] = Some []
readings (p ∷ ps) = then (whole p) (λ r. option_map (λ rs. r ∷ rs) (readings ps))

abbrev after_byte : ℕ → List ℕ × List ℕ → List ℕ × List ℕ
after_byte b c = (b ∷ c.0, c.1)

-- the parts of bytes, where they are cut at the first comma or have none
abbrev of_cut : List ℕ → Option (List ℕ × List ℕ) → List (List ℕ)
of_cut bs None = bs ∷ []
of_cut bs (Some c) = c.0 ∷ parts c.1

cut_step : (b : ℕ) (bs : List ℕ) (v : Bool) (o : Option (List ℕ × List ℕ)) → parts bs ≡ of_cut bs o → cond v ([] ∷ parts bs) (onto_first b (parts bs)) ≡ of_cut (b ∷ bs) (cond v (Some ([], bs)) (option_map (after_byte b) o))
cut_step b bs true o e = refl
cut_step b bs false None e = ap (onto_first b) e
cut_step b bs false (Some c) e = ap (onto_first b) e

parts_of_cut : (bs : List ℕ) → parts bs ≡ of_cut bs (cut 44 bs)
unfolding cut
parts_of_cut [] = refl
parts_of_cut (b ∷ bs) = cut_step b bs (eqb b 44) (cut 44 bs) (parts_of_cut bs)

-- bytes with a comma are no number
some_mapped : (b : ℕ) (c : List ℕ × List ℕ) (o : Option (List ℕ × List ℕ)) → option_map (after_byte b) o ≡ Some c → (d : List ℕ × List ℕ) × (o ≡ Some d)
some_mapped b c None e = cc
some_mapped b c (Some d) e = (d, refl)

comma : (bs : List ℕ) (c : List ℕ × List ℕ) → cut 44 bs ≡ Some c → all_digits bs ≡ false
unfolding cut
comma [] c e = cc
comma (b ∷ bs) c e =
    ⊎_elim
    (λ is. and_left (digit b) (all_digits bs) (ap digit (eqb-true b 44 is)))
    (λ not.
    let rest = some_mapped b c (cut 44 bs) (sym (cond-false (eqb b 44) (Some ([], bs)) (option_map (after_byte b) (cut 44 bs)) not) ∙ e) in
    and_right (digit b) (all_digits bs) (comma bs rest.0 rest.1))
    (cases_Bool (eqb b 44))

-- the readings of so many parts
abbrev exactly : ℕ → List (List ℕ) → Option (List ℕ)
exactly k ps = cond (eqb (length ps) k) (readings ps) None

only_one : (o : Option ℕ) → option_map (λ r. r ∷ []) o ≡ then o (λ r. Some (r ∷ []))
only_one None = refl
only_one (Some r) = refl

nothing : (o : Option ℕ) (go : ℕ → Option (List ℕ)) → ((r : ℕ) → go r ≡ None) → then o go ≡ None
nothing None go h = refl
nothing (Some r) go h = h r

one_part : (bs : List ℕ) (o : Option (List ℕ × List ℕ)) → cut 44 bs ≡ o → option_map (λ r. r ∷ []) (whole bs) ≡ exactly 1 (of_cut bs o)
one_part bs None e = only_one (whole bs)
one_part bs (Some c) e =
    let long : length (of_cut bs (Some c)) ≡ suc (length (parts c.1)) = refl in
    let some = length-slice_split (λ b. eqb b 44) c.1 in
    ap (option_map (λ r. r ∷ [])) (other_byte 18446744073709551615 bs (comma bs c e))
    ∙ sym (cond-false (eqb (length (of_cut bs (Some c))) 1) (readings (of_cut bs (Some c))) None (ne_eqb (length (of_cut bs (Some c))) 1 (λ same. absurd (omega (arith, some)))))

more_parts : (n : ℕ) (bs : List ℕ) (o : Option (List ℕ × List ℕ)) → ((rest : List ℕ) → ranks n rest ≡ exactly (suc n) (parts rest)) → then o (λ c. then (whole c.0) (λ r. option_map (λ rs. r ∷ rs) (ranks n c.1))) ≡ exactly (suc (suc n)) (of_cut bs o)
more_parts n bs None h = sym (cond-false (eqb (length (of_cut bs None)) (suc (suc n))) (readings (of_cut bs None)) None (ne_eqb (length (of_cut bs None)) (suc (suc n)) (λ same. absurd (omega arith))))
more_parts n bs (Some c) h =
    let ps = parts c.1 in
    ⊎_elim
    (λ yes.
    let same : length ps ≡ suc n = eqb-true (length ps) (suc n) yes in
    ap (λ o. then (whole c.0) (λ r. option_map (λ rs. r ∷ rs) o)) (h c.1 ∙ cond-true (eqb (length ps) (suc n)) (readings ps) None yes)
    ∙ sym (cond-true (eqb (suc (length ps)) (suc (suc n))) (readings (c.0 ∷ ps)) None (eq-eqb (suc (length ps)) (suc (suc n)) (ap suc same))))
    (λ no.
    ap (λ o. then (whole c.0) (λ r. option_map (λ rs. r ∷ rs) o)) (h c.1 ∙ cond-false (eqb (length ps) (suc n)) (readings ps) None no)
    ∙ (nothing (whole c.0) (λ r. None) (λ r. refl)
    ∙ sym (cond-false (eqb (suc (length ps)) (suc (suc n))) (readings (c.0 ∷ ps)) None (ne_eqb (suc (length ps)) (suc (suc n)) (λ same. eqb-false (length ps) (suc n) no (omega arith))))))
    (cases_Bool (eqb (length ps) (suc n)))

ranks_parts : (n : ℕ) (bs : List ℕ) → ranks n bs ≡ exactly (suc n) (parts bs)
unfolding ranks
ranks_parts zero bs = one_part bs (cut 44 bs) refl ∙ ap (exactly 1) (sym (parts_of_cut bs))
ranks_parts (suc n) bs = more_parts n bs (cut 44 bs) (ranks_parts n) ∙ ap (exactly (suc (suc n))) (sym (parts_of_cut bs))

-- the ranks so far are held, and those of the parts that are left follow them
pub record RankedOn (list : List ℕ) (held : List ℕ) (left : List (List ℕ)) : Type 0 where
  pub ranks_left : readings (parts list) ≡ option_map (λ rs. held ++ rs) (readings left)
  pub parts_left : length (parts list) ≡ length held + length left

all_left : (o : Option (List ℕ)) → o ≡ option_map (λ rs. [] ++ rs) o
all_left None = refl
all_left (Some rs) = refl

pub none_yet : (list : List ℕ) → RankedOn list [] (parts list)
none_yet list = record { ranks_left = all_left (readings (parts list)); parts_left = omega arith }

not_read : (list : List ℕ) → readings (parts list) ≡ None → ranks 15 list ≡ None
not_read list e =
    ranks_parts 15 list
    ∙ ⊎_elim
    (λ yes. cond-true (eqb (length (parts list)) 16) (readings (parts list)) None yes ∙ e)
    (λ no. cond-false (eqb (length (parts list)) 16) (readings (parts list)) None no)
    (cases_Bool (eqb (length (parts list)) 16))

not_sixteen : (list : List ℕ) → length (parts list) ≢ 16 → ranks 15 list ≡ None
not_sixteen list ne = ranks_parts 15 list ∙ cond-false (eqb (length (parts list)) 16) (readings (parts list)) None (ne_eqb (length (parts list)) 16 ne)

module _ (list held part : List ℕ) (left : List (List ℕ)) (inv : RankedOn list held (part ∷ left)) where
  pub no_rank : None ≡ whole part → ranks 15 list ≡ None
  no_rank e = not_read list (inv.ranks_left ∙ ap (λ o. option_map (λ rs. held ++ rs) (then o (λ r. option_map (λ rs. r ∷ rs) (readings left)))) (sym e))

  pub too_many : 16 ≤ length held → ranks 15 list ≡ None
  too_many h = not_sixteen list (λ same. absurd (omega (arith, inv.parts_left)))

  pub rank_further : (r : ℕ) → Some r ≡ whole part → RankedOn list (held ++ r ∷ []) left
  rank_further r e = record {
    ranks_left =
        inv.ranks_left
        ∙ (ap (λ o. option_map (λ rs. held ++ rs) (then o (λ r. option_map (λ rs. r ∷ rs) (readings left)))) (sym e)
        ∙ both held r (readings left));
    parts_left = omega (arith, inv.parts_left, length-append held (r ∷ []));
  }

module _ {E : Type 0} (list held : List ℕ) (r : Result (List ℕ) E) (inv : RankedOn list held []) (h : MatchResult r (λ y. IsWholeChunk held y 16) (λ _. length held ≢ 16)) where
  pub too_few : None ≡ result_ok r → ranks 15 list ≡ None
  too_few e = not_sixteen list (λ same. few r h e (omega (arith, inv.parts_left, same)))
    where
      few : (r : Result (List ℕ) E) → MatchResult r (λ y. IsWholeChunk held y 16) (λ _. length held ≢ 16) → None ≡ result_ok r → length held ≢ 16
      few (Ok y) h e = cc
      few (Err x) h e = h

  pub all_ranks : (ys : List ℕ) → Some ys ≡ result_ok r → ranks 15 list ≡ Some ys
  all_ranks ys e =
      let is = whole_chunk r h e in
      ranks_parts 15 list
      ∙ (cond-true (eqb (length (parts list)) 16) (readings (parts list)) None (eq-eqb (length (parts list)) 16 (omega (arith, inv.parts_left, is.0)))
      ∙ (inv.ranks_left ∙ ap Some (append-nil held ∙ sym is.1)))
    where
      whole_chunk : (r : Result (List ℕ) E) → MatchResult r (λ y. IsWholeChunk held y 16) (λ _. length held ≢ 16) → Some ys ≡ result_ok r → (length held ≡ 16) × (ys ≡ held)
      whole_chunk (Ok y) h e = let same : ys ≡ y = cc in (h.long, same ∙ h.same)
      whole_chunk (Err x) h e = cc

module _ {S A B : Type 0} {steps : S → Option A → S → Type 0} {v : A → B} where
  -- an iterator gives the first of what is left
  pub yields_next : (left : List B) (s t : S) (x : A) → YieldsList steps v s left → steps s (Some x) t → (more : List B) × (left ≡ v x ∷ more) × YieldsList steps v t more
  yields_next [] s t x all h = absurd (all.runs x t h)
  yields_next (y ∷ ys) s t x all h = let m = all.runs.1 x t h in (ys, sym (ap (λ z. z ∷ ys) m.0), record { runs = m.1 })

  -- or nothing is left
  pub yields_none : (left : List B) (s t : S) → YieldsList steps v s left → steps s None t → left ≡ []
  yields_none [] s t all h = refl
  yields_none (y ∷ ys) s t all h = absurd (all.runs.0 t h)

module _ {U E : Type 0} (old new : ShortList ℕ) (x : ℕ) where
  abbrev Pushed : Result U E → Type 0
  Pushed r = MatchResult r (λ _. (length old.items < 16) × (new ≡ with_item old x)) (λ _. (16 ≤ length old.items) × (new ≡ old))

  pub added : (r : Result U E) (u : U) → Pushed r → Some u ≡ result_ok r → new.items ≡ old.items ++ x ∷ []
  added (Ok w) u h e = ap (λ s. s.items) h.1
  added (Err w) u h e = cc

  pub full : (r : Result U E) → Pushed r → None ≡ result_ok r → 16 ≤ length old.items
  full (Ok w) h e = cc
  full (Err w) h e = h.0
