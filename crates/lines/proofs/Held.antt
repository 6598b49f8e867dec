-- A list of pairs that holds the first seventeen.
use Rattle.std.proofs.Common.{◌≡◌, ℕ, suc, ◌+◌, ◌-◌, ◌<◌, ◌≤◌, min, ltb, List, [], ◌∷◌, ◌++◌, length, take, drop, replicate, Some, None, Option, Ok, Err, Result, MatchResult, sym, refl, ap, ◌∙◌, ⊎_elim, arith}
use lib.Seq.{take-append-le}
use Rattle.std.proofs.lemmas.List.{length-append, length-take, take_all, append_assoc}
use Rattle.std.proofs.lemmas.Bool.{cases_lt, cond-true, cond-false, lt-ltb, le-ltb}
use Rattle.std.specs.Option.{option_map}
use Rattle.analysis.specs.ShortList.{ShortList, with_item}
use Rattle.analysis.specs.declared.pair.Pair.{Pair}
use Rattle.lines.specs.declared.tables.PairList.{PairList}
use Rattle.lines.specs.Readings.{then}
use Rattle.lines.specs.Tables.{pair, pairs, blank_pair, kept, listed, with_pair}

abbrev pub held_in : ShortList Pair → PairList
held_in s = record { held = s }

-- a push into the places, where there is room or not
pub pushed : {A E : Type 0} (t : PairList) (p : Pair) (new : ShortList Pair) (r : Result A E) → MatchResult r (λ _. (length t.held.items < 17) × (new ≡ with_item t.held p)) (λ _. (17 ≤ length t.held.items) × (new ≡ t.held)) → ◌≡◌ {A = PairList} (record { held = new }) (with_pair t p)
pushed t p new (Ok x) h = ap held_in h.1 ∙ sym (cond-true (ltb (length t.held.items) 17) _ t (lt-ltb (length t.held.items) 17 h.0))
pushed t p new (Err x) h = ap held_in h.1 ∙ sym (cond-false (ltb (length t.held.items) 17) _ t (le-ltb (length t.held.items) 17 h.0))

alike : (a b x y : List Pair) → a ≡ b → x ≡ y → ◌≡◌ {A = PairList} (record { held = record { items = a; spare = x } }) (record { held = record { items = b; spare = y } })
alike a b x y e f = λ i. record { held = record { items = e i; spare = f i } }

one_less : (n m : ℕ) → n ≡ suc m → drop 1 (replicate n blank_pair) ≡ replicate m blank_pair
one_less n m e = ap (λ k. drop 1 (replicate k blank_pair)) e

-- one more pair of a list
pub kept_more : (t : PairList) (p : Pair) (ps : List Pair) → t ≡ kept ps → with_pair t p ≡ kept (ps ++ p ∷ [])
unfolding kept
kept_more t p ps e =
    let items : t.held.items ≡ take 17 ps = ap (λ u. u.held.items) e in
    let spare : t.held.spare ≡ replicate (17 - length ps) blank_pair = ap (λ u. u.held.spare) e in
    let more : length (ps ++ p ∷ []) ≡ length ps + 1 = length-append ps (p ∷ []) in
    let long : length t.held.items ≡ min 17 (length ps) = ap length items ∙ length-take 17 ps in
    ⊎_elim
    (λ few.
    cond-true (ltb (length t.held.items) 17) _ t (lt-ltb (length t.held.items) 17 few)
    ∙ alike _ _ _ _
    (ap (λ l. l ++ p ∷ []) (items ∙ take_all 17 ps (omega arith)) ∙ sym (take_all 17 (ps ++ p ∷ []) (omega arith)))
    (ap (drop 1) spare ∙ one_less (17 - length ps) (17 - length (ps ++ p ∷ [])) (omega arith)))
    (λ many.
    cond-false (ltb (length t.held.items) 17) _ t (le-ltb (length t.held.items) 17 many)
    ∙ (e
    ∙ alike _ _ _ _
    (sym (take-append-le 17 ps (p ∷ []) (omega arith)))
    (let same : 17 - length ps ≡ 17 - length (ps ++ p ∷ []) = omega arith in ap (λ k. replicate k blank_pair) same)))
    (cases_lt (length t.held.items) 17)

pub none_kept : record { held = record { items = []; spare = replicate 17 blank_pair } } ≡ kept []
unfolding kept
none_kept = refl

-- the pairs that are held of a list are its first seventeen
pub listed_kept : (ps : List Pair) → listed (kept ps) ≡ take 17 ps
unfolding kept
listed_kept ps = refl

pub both : {X : Type 0} (ps : List X) (p : X) (o : Option (List X)) → option_map (λ qs. ps ++ qs) (option_map (λ qs. p ∷ qs) o) ≡ option_map (λ qs. (ps ++ p ∷ []) ++ qs) o
both ps p None = refl
both ps p (Some qs) = ap Some (sym (append_assoc ps (p ∷ []) qs))

-- one field further
pub pairs_further : (all : Option (List Pair)) (f : List ℕ) (left fs : List (List ℕ)) (ps : List Pair) (p : Pair) → all ≡ option_map (λ qs. ps ++ qs) (pairs left) → left ≡ f ∷ fs → pair f ≡ Some p → all ≡ option_map (λ qs. (ps ++ p ∷ []) ++ qs) (pairs fs)
pairs_further all f left fs ps p inv e is =
    inv
    ∙ (ap (λ l. option_map (λ qs. ps ++ qs) (pairs l)) e
    ∙ (ap (λ o. option_map (λ qs. ps ++ qs) (then o (λ q. option_map (λ qs. q ∷ qs) (pairs fs)))) is
    ∙ both ps p (pairs fs)))
