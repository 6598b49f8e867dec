-- One step over the pairs of a body, and over the bodies.
use Rattle.std.proofs.Common.{◌≡◌, ℕ, ◌+◌, ◌*◌, ◌<◌, ◌≤◌, true, false, cond, ◌&&◌, leb, ◌⊎◌, List, [], ◌∷◌, ◌++◌, length, get_or, take, drop, Some, None, Option, sym, refl, ap, ◌∙◌, ⊎_elim, arith}
use Rattle.std.specs.Option.{option_or}
use Rattle.std.proofs.lemmas.List.FromFn.{length-map-range_with_len, get_or-map-range_with_len}
use Rattle.std.proofs.lemmas.List.{at_drop_more, take_more}
use Rattle.std.proofs.lemmas.Option.{none-some}
use Rattle.std.proofs.lemmas.Bool.{and_parts, and_from, and_left, and_right, cond-true, cond-false, leb-true, le-leb, lt-leb}
use Rattle.analysis.specs.declared.pair.Pair.{Pair}
use Rattle.board.specs.Pairs.{rising, weighted}
use Rattle.planfile.specs.declared.contents.Entry.{Entry}
use Rattle.planfile.specs.Fields.{pair}
use Rattle.planfile.specs.Contents.{pair_count}
use Rattle.planfile.specs.Bodies.{pairs, first_wrong, wrong_pair, wrong_in, within}

pub length_pairs : (f : List ℕ) (at n : ℕ) → length (pairs f at n) ≡ n
unfolding pairs
length_pairs f at n = length-map-range_with_len (λ k. pair f (at + 3 * k)) 0 n

pub get_or_pairs : (f : List ℕ) (at n i : ℕ) (d : Pair) → i < n → get_or (pairs f at n) i d ≡ pair f (at + 3 * i)
unfolding pairs
get_or_pairs f at n i d lt = get_or-map-range_with_len (λ k. pair f (at + 3 * k)) 0 n i i d lt (omega arith)

-- a table of at most 16 pairs is held, and one of more as an empty one
module _ (f : List ℕ) (at named : ℕ) (held : List Pair) where
  pub table_held : named ≤ 16 → (n : ℕ) → named ≡ n → held ≡ pairs f at named → held ≡ cond (leb n 16) (pairs f at n) []
  table_held le n is h = h ∙ (ap (pairs f at) is ∙ sym (cond-true (leb n 16) _ _ (le-leb n 16 (omega arith))))

  pub table_empty : 16 < named → (n : ℕ) → named ≡ n → held ≡ pairs f at 0 → held ≡ cond (leb n 16) (pairs f at n) []
  unfolding pairs
  table_empty gt n is h = h ∙ sym (cond-false (leb n 16) _ _ (lt-leb n 16 (omega arith)))

module _ (f : List ℕ) (at n i : ℕ) (lt : i < n) where
  abbrev here : Pair
  here = pair f (at + 3 * i)

  in_pairs : i < length (pairs f at n)
  in_pairs = let l = length_pairs f at n in omega arith

  -- one more pair is held
  pub pair_held : (held next : List Pair) (p : Pair) → held ≡ take i (pairs f at n) → p ≡ here → next ≡ held ++ p ∷ [] → next ≡ take (i + 1) (pairs f at n)
  pair_held held next p q is pushed =
      let taken : take (i + 1) (pairs f at n) ≡ take i (pairs f at n) ++ here ∷ [] = take_more (pairs f at n) i here in_pairs ∙ ap (λ e. take i (pairs f at n) ++ e ∷ []) (get_or_pairs f at n i here lt) in
      pushed ∙ (ap (λ b. b ++ p ∷ []) q ∙ (ap (λ x. take i (pairs f at n) ++ x ∷ []) is ∙ sym taken))

  pair_next : (low x : ℕ) (p : Pair) → p ≡ here → first_wrong (drop i (pairs f at n)) low x ≡ first_wrong (p ∷ drop (i + 1) (pairs f at n)) low x
  pair_next low x p is =
      at_drop_more (λ ps. first_wrong ps low x) (pairs f at n) i here in_pairs
      ∙ ap (λ q. first_wrong (q ∷ drop (i + 1) (pairs f at n)) low x) (get_or_pairs f at n i here lt ∙ sym is)

  -- the pair at i is right: the others decide
  pub pair_goes : (low : ℕ) (p : Pair) → p ≡ here → low ≤ p.time → (p.weight ≡ 0 → ⊥)
      → first_wrong (drop (i + 1) (pairs f at n)) (p.time + 1) (at + 3 * (i + 1)) ≡ first_wrong (drop i (pairs f at n)) low (at + 3 * i)
  pair_goes low p is l w =
      let ok : (leb low p.time && leb 1 p.weight) ≡ true = and_from _ _ (le-leb low p.time l) (le-leb 1 p.weight (omega arith)) in
      let x : at + 3 * (i + 1) ≡ at + 3 * i + 3 = omega arith in
      ap (λ y. first_wrong (drop (i + 1) (pairs f at n)) (p.time + 1) y) x ∙ (sym (cond-true (leb low p.time && leb 1 p.weight) _ _ ok) ∙ sym (pair_next low (at + 3 * i) p is))

  -- the pair at i is wrong
  pub pair_stops : (low : ℕ) (p : Pair) → p ≡ here → (p.time < low) ⊎ ((low ≤ p.time) × (p.weight ≡ 0)) → first_wrong (drop i (pairs f at n)) low (at + 3 * i) ≡ Some (at + 3 * i)
  pair_stops low p is h =
      let bad : (leb low p.time && leb 1 p.weight) ≡ false =
      ⊎_elim (λ (t : p.time < low). and_left _ _ (lt-leb low p.time t)) (λ (t : (low ≤ p.time) × (p.weight ≡ 0)). and_right _ _ (lt-leb 1 p.weight (omega (arith, t.1)))) h in
      pair_next low (at + 3 * i) p is ∙ cond-false (leb low p.time && leb 1 p.weight) _ _ bad

module _ (f : List ℕ) (es : List Entry) (i : ℕ) (d : Entry) (lt : i < length es) where
  body_next : wrong_in f (drop i es) ≡ option_or (wrong_pair f (get_or es i d)) (wrong_in f (drop (i + 1) es))
  body_next = at_drop_more (wrong_in f) es i d lt

  pub body_goes : wrong_pair f (get_or es i d) ≡ None → wrong_in f (drop (i + 1) es) ≡ wrong_in f (drop i es)
  body_goes h = ap (λ o. option_or o (wrong_in f (drop (i + 1) es))) (sym h) ∙ sym body_next

  pub body_stops : (x : ℕ) → wrong_pair f (get_or es i d) ≡ Some x → wrong_in f (drop i es) ≡ Some x
  body_stops x h = body_next ∙ ap (λ o. option_or o (wrong_in f (drop (i + 1) es))) h

  pub within_next : within f (drop i es) ≡ true → ((get_or es i d).start + 6 + 3 * pair_count f (get_or es i d) ≤ length f) × (within f (drop (i + 1) es) ≡ true)
  within_next h =
      let a : (leb ((get_or es i d).start + 6 + 3 * pair_count f (get_or es i d)) (length f) && within f (drop (i + 1) es)) ≡ true = sym (at_drop_more (within f) es i d lt) ∙ h in
      (leb-true _ _ (and_parts _ _ a).0, (and_parts _ _ a).1)

-- the pairs of a time table are not wrong
pub lawful_right : (ps : List Pair) (low at : ℕ) → rising low ps ≡ true → weighted ps ≡ true → first_wrong ps low at ≡ None
lawful_right [] low at r w = refl
lawful_right (p ∷ ps) low at r w =
    let a = and_parts (leb low p.time && leb p.time 255) (rising (p.time + 1) ps) r in
    let t = and_parts (leb low p.time) (leb p.time 255) a.0 in
    let b = and_parts (leb 1 p.weight) (weighted ps) w in
    cond-true (leb low p.time && leb 1 p.weight) _ _ (and_from _ _ t.0 b.0) ∙ lawful_right ps (p.time + 1) (at + 3) a.1 b.1

or_none : (o : Option ℕ) → option_or o None ≡ o
or_none None = refl
or_none (Some x) = refl

or_both : (o y : Option ℕ) → option_or o y ≡ None → (o ≡ None) × (y ≡ None)
or_both None y h = (refl, h)
or_both (Some x) y h = absurd (none-some x (sym h))

-- one more body
pub wrong_push : (f : List ℕ) (es : List Entry) (e : Entry) → wrong_in f es ≡ None → wrong_in f (es ++ e ∷ []) ≡ wrong_pair f e
wrong_push f [] e h = or_none (wrong_pair f e)
wrong_push f (x ∷ es) e h =
    let b = or_both (wrong_pair f x) (wrong_in f es) h in
    ap (λ o. option_or o (wrong_in f (es ++ e ∷ []))) b.0 ∙ wrong_push f es e b.1
