-- One step of the loop over the contents.
use Rattle.std.proofs.Common.{◌≡◌, ℕ, ◌+◌, ◌*◌, ◌<◌, ◌≤◌, true, false, eqb, List, [], ◌∷◌, ◌++◌, length, get_or, take, drop, Some, sym, ap, ◌∙◌, arith}
use Rattle.std.proofs.lemmas.List.FromFn.{length-map-range_with_len, get_or-map-range_with_len}
use Rattle.std.proofs.lemmas.List.{at_drop_more, take_more}
use Rattle.std.proofs.lemmas.Bool.{eq-eqb, ne_eqb, cond-true, cond-false}
use Rattle.planfile.specs.declared.contents.Entry.{Entry}
use Rattle.planfile.specs.Faults.{file_fault}
use Rattle.planfile.specs.Fields.{byte}
use Rattle.planfile.specs.Contents.{entry, contents, placed, sized, entry_number, body_end, entries_fault, last_end}

pub number_unplaced : (f : List ℕ) (start : ℕ) (before : List Entry) (e : Entry) → placed f start before e ≡ false → entry_number f start before e ≡ 21
unfolding entry_number
number_unplaced f start before e p = cond-false (placed f start before e) _ _ p

pub number_unsized : (f : List ℕ) (start : ℕ) (before : List Entry) (e : Entry) → placed f start before e ≡ true → sized f e ≡ false → entry_number f start before e ≡ 22
unfolding entry_number
number_unsized f start before e p q = cond-true (placed f start before e) _ _ p ∙ cond-false (sized f e) _ _ q

pub number_right : (f : List ℕ) (start : ℕ) (before : List Entry) (e : Entry) → placed f start before e ≡ true → sized f e ≡ true → entry_number f start before e ≡ 0
unfolding entry_number
number_right f start before e p q = cond-true (placed f start before e) _ _ p ∙ cond-true (sized f e) _ _ q

pub length_contents : (f : List ℕ) → length (contents f) ≡ byte f 0
unfolding contents
length_contents f = length-map-range_with_len (λ k. entry f (1 + 5 * k)) 0 (byte f 0)

pub get_or_contents : (f : List ℕ) (i : ℕ) (d : Entry) → i < byte f 0 → get_or (contents f) i d ≡ entry f (1 + 5 * i)
unfolding contents
get_or_contents f i d lt = get_or-map-range_with_len (λ k. entry f (1 + 5 * k)) 0 (byte f 0) i i d lt (omega arith)

-- an entry that is wrong is the first fault
pub fault_here : (f : List ℕ) (at start : ℕ) (before : List Entry) (e : Entry) (es : List Entry) → 1 ≤ entry_number f start before e → entries_fault f at start before (e ∷ es) ≡ Some (file_fault (entry_number f start before e) at)
fault_here f at start before e es h =
    let z : eqb (entry_number f start before e) 0 ≡ false = ne_eqb (entry_number f start before e) 0 (λ q. omega arith) in
    cond-false (eqb (entry_number f start before e) 0) _ _ z

-- after an entry that is right the others decide
pub fault_later : (f : List ℕ) (at start : ℕ) (before : List Entry) (e : Entry) (es : List Entry) → entry_number f start before e ≡ 0 → entries_fault f at start before (e ∷ es) ≡ entries_fault f (at + 5) (body_end e) (before ++ e ∷ []) es
fault_later f at start before e es h =
    let z : eqb (entry_number f start before e) 0 ≡ true = eq-eqb (entry_number f start before e) 0 h in
    cond-true (eqb (entry_number f start before e) 0) _ _ z

module _ (f : List ℕ) (i end : ℕ) (lt : i < byte f 0) where
  abbrev here : Entry
  here = entry f (1 + 5 * i)

  in_contents : i < length (contents f)
  in_contents = let n = length_contents f in omega arith

  dropped : {Y : Type 0} (F : List Entry → Y) → F (drop i (contents f)) ≡ F (here ∷ drop (i + 1) (contents f))
  dropped F = at_drop_more F (contents f) i here in_contents ∙ ap (λ e. F (e ∷ drop (i + 1) (contents f))) (get_or_contents f i here lt)

  taken : take (i + 1) (contents f) ≡ take i (contents f) ++ here ∷ []
  taken = take_more (contents f) i here in_contents ∙ ap (λ e. take i (contents f) ++ e ∷ []) (get_or_contents f i here lt)

  pub stops : (held : List Entry) → 1 ≤ entry_number f end held here → entries_fault f (1 + 5 * i) end held (drop i (contents f)) ≡ Some (file_fault (entry_number f end held here) (1 + 5 * i))
  stops held h = dropped (entries_fault f (1 + 5 * i) end held) ∙ fault_here f (1 + 5 * i) end held here (drop (i + 1) (contents f)) h

  module _ (held next : List Entry) (e : Entry) (same : e ≡ here) (pushed : next ≡ held ++ e ∷ []) where
    pushed_here : next ≡ held ++ here ∷ []
    pushed_here = pushed ∙ ap (λ x. held ++ x ∷ []) same

    -- one more entry is held
    pub held_goes : held ≡ take i (contents f) → next ≡ take (i + 1) (contents f)
    held_goes q = pushed_here ∙ (ap (λ b. b ++ here ∷ []) q ∙ sym taken)

    pub goes : entry_number f end held here ≡ 0 → entries_fault f (1 + 5 * i) end held (drop i (contents f)) ≡ entries_fault f (1 + 5 * (i + 1)) (body_end here) next (drop (i + 1) (contents f))
    goes h =
        let at : 1 + 5 * i + 5 ≡ 1 + 5 * (i + 1) = omega arith in
        dropped (entries_fault f (1 + 5 * i) end held)
        ∙ (fault_later f (1 + 5 * i) end held here (drop (i + 1) (contents f)) h
        ∙ (ap (λ a. entries_fault f a (body_end here) (held ++ here ∷ []) (drop (i + 1) (contents f))) at
        ∙ ap (λ b. entries_fault f (1 + 5 * (i + 1)) (body_end here) b (drop (i + 1) (contents f))) (sym pushed_here)))

  pub end_goes : last_end end (drop i (contents f)) ≡ last_end (body_end here) (drop (i + 1) (contents f))
  end_goes = dropped (last_end end)
