-- What the book says of a body, and what a file with right contents has.
use Rattle.std.proofs.Common.{◌≡◌, ℕ, zero, suc, ◌+◌, ◌*◌, ◌<◌, ◌≤◌, true, false, cond, ◌&&◌, eqb, ltb, leb, ◌⊎◌, List, [], ◌∷◌, ◌++◌, length, get_or, take, drop, set, Some, None, Ok, Err, Result, unwrap_or, sym, refl, ap, ◌∙◌, ⊎_elim, arith}
use Rattle.std.proofs.lemmas.List.{at_drop_more, take_more}
use Rattle.std.proofs.lemmas.Bool.{and_parts, and_from, and_left, and_right, cond-true, cond-false, cond_both, cases_Bool, true_from_ne_false, eq-eqb, ne_eqb, eqb-true, leb-true, le-leb, lt-leb}
use Rattle.std.proofs.lemmas.Option.{none-some}
use Rattle.std.proofs.lemmas.Bool.Decides.{nat_tests}
use Rattle.analysis.specs.declared.pair.Pair.{Pair}
use Rattle.board.specs.Model as model
use Rattle.board.specs.Model.{Book, new_book}
use Rattle.book.specs.Moves.{enter_refusal, entered, bound_refusal}
use Rattle.book.specs.declared.refusals.Refusal.{Refusal}
use Rattle.book.specs.declared.refusals.Refusal.TheVariants.{Place, Period, Phase, Deadline, Table, Hyperperiod, Jobs, Empty, Rounds, Sheet, NoJob, Window, TooHeavy}
use Rattle.book.specs.Refusals.{number}
use Rattle.board.specs.Pairs.{lawful, rising, weighted}
use Rattle.planfile.specs.declared.contents.Entry.{Entry}
use Rattle.planfile.specs.Faults.{Told, file_fault, book_fault}
use Rattle.planfile.specs.Fields.{byte, word}
use Rattle.planfile.specs.Contents.{pair_count, blank, placed, sized, entry_number, body_end, entries_fault, contents_fit, contents_end, contents_fault, contents}
use Rattle.planfile.specs.Bodies.{body_pairs, task, body_refusal, body_entered, and_then, wrong_pair, wrong_in, within, table_offset, refusal_offset, bodies_entered}
use Rattle.planfile.specs.Loads.{loaded, ended, unless, bodies_end}
use Rattle.planfile.proofs.Wrong.{length_pairs, lawful_right, wrong_push}
use Rattle.planfile.proofs.Listed.{number_unplaced, number_unsized}

-- what refuses an entry whose pairs make no time table
abbrev no_table : ℕ → ℕ → ℕ → ℕ → ℕ
no_table place period phase deadline =
    cond (leb place 15) (cond (leb 1 period && leb period 4096) (cond (ltb phase period) (cond (leb 1 deadline && leb deadline 254) 5 4) 3) 2) 1

no_table_refuses : (place period phase deadline : ℕ) → 1 ≤ no_table place period phase deadline
no_table_refuses place period phase deadline =
    let P : ℕ → Type 0 = λ n. 1 ≤ n in
    cond_both (leb place 15) _ _ P
    (λ _. cond_both (leb 1 period && leb period 4096) _ _ P
    (λ _. cond_both (ltb phase period) _ _ P
    (λ _. cond_both (leb 1 deadline && leb deadline 254) _ _ P (λ _. omega arith) (λ _. omega arith))
    (λ _. omega arith))
    (λ _. omega arith))
    (λ _. omega arith)

module _ (b : Book) (place period phase deadline : ℕ) where
  abbrev made : List Pair → model.Entry
  made ps = record { period = period; phase = phase; deadline = deadline; pairs = ps }

  unlawful_refused : (ps : List Pair) → lawful ps ≡ false → enter_refusal b place (made ps) ≡ no_table place period phase deadline
  unlawful_refused ps h =
      ap (λ t. cond (leb place 15) (cond (leb 1 period && leb period 4096) (cond (ltb phase period) (cond (leb 1 deadline && leb deadline 254) (cond t (bound_refusal (set b.places place (Some (made ps)))) 5) 4) 3) 2) 1) h

  unlawful_left : (ps : List Pair) → lawful ps ≡ false → entered b place (made ps) ≡ b
  unlawful_left ps h =
      let r = unlawful_refused ps h in
      let z = no_table_refuses place period phase deadline in
      cond-false (eqb (enter_refusal b place (made ps)) 0) _ _ (ne_eqb _ 0 (λ q. omega arith))

  pub accepted_lawful : (ps : List Pair) → enter_refusal b place (made ps) ≡ 0 → lawful ps ≡ true
  accepted_lawful ps h =
      true_from_ne_false (lawful ps) (λ t. let r = unlawful_refused ps t in let z = no_table_refuses place period phase deadline in omega arith)

  pub record Alike (ps qs : List Pair) : Type 0 where
    pub answers : enter_refusal b place (made qs) ≡ enter_refusal b place (made ps)
    pub leaves : entered b place (made qs) ≡ entered b place (made ps)

  -- a table of more than 16 pairs is refused as an empty one is
  pub held_alike : (ps qs : List Pair) (n : ℕ) → length ps ≡ n → qs ≡ cond (leb n 16) ps [] → Alike ps qs
  held_alike ps qs n l is =
      ⊎_elim
      (λ (t : leb n 16 ≡ true).
      let e : qs ≡ ps = is ∙ cond-true (leb n 16) ps [] t in
      record { answers = ap (λ x. enter_refusal b place (made x)) e; leaves = ap (λ x. entered b place (made x)) e })
      (λ (t : leb n 16 ≡ false).
      let e : qs ≡ [] = is ∙ cond-false (leb n 16) ps [] t in
      let p : lawful ps ≡ false = and_right (leb 1 (length ps)) _ (and_left (leb (length ps) 16) _ (ap (λ k. leb k 16) l ∙ t)) in
      let q : lawful qs ≡ false = ap lawful e in
      record { answers = unlawful_refused qs q ∙ sym (unlawful_refused ps p); leaves = unlawful_left qs q ∙ sym (unlawful_left ps p) })
      (cases_Bool (leb n 16))

-- an entry that was read from a body
pub record Entered (f : List ℕ) (b : Book) (e : Entry) (x : model.Entry) : Type 0 where
  pub answers : enter_refusal b e.place x ≡ body_refusal f b e
  pub leaves : entered b e.place x ≡ entered b e.place (task f e)

pub body_read : (f : List ℕ) (b : Book) (e : Entry) (period phase deadline : ℕ) (qs : List Pair)
    → period ≡ word f e.start → phase ≡ word f (e.start + 2) → deadline ≡ byte f (e.start + 4) → qs ≡ cond (leb (pair_count f e) 16) (body_pairs f e) []
    → Entered f b e (record { period = period; phase = phase; deadline = deadline; pairs = qs })
unfolding body_refusal
body_read f b e period phase deadline qs p h d is =
    let x : model.Entry = record { period = period; phase = phase; deadline = deadline; pairs = qs } in
    let y : model.Entry = record { period = word f e.start; phase = word f (e.start + 2); deadline = byte f (e.start + 4); pairs = qs } in
    let same : x ≡ y = cc in
    let a = held_alike b e.place (word f e.start) (word f (e.start + 2)) (byte f (e.start + 4)) (body_pairs f e) qs (pair_count f e) (length_pairs f (e.start + 6) (pair_count f e)) is in
    record { answers = ap (enter_refusal b e.place) same ∙ a.answers; leaves = ap (entered b e.place) same ∙ a.leaves }

-- what entering a body comes to
module _ (f : List ℕ) (b : Book) (e : Entry) where
  pub body_taken : (next : Book) → body_refusal f b e ≡ 0 → next ≡ entered b e.place (task f e) → Ok next ≡ body_entered f b e
  unfolding body_entered
  body_taken next h k =
      ap Ok k ∙ sym (cond-true (eqb (body_refusal f b e) 0) _ _ (eq-eqb (body_refusal f b e) 0 h))

  pub body_refused : (n : ℕ) → 1 ≤ n → n ≡ body_refusal f b e → Err (book_fault n (refusal_offset f e n)) ≡ body_entered f b e
  unfolding body_entered
  body_refused n h k =
      ap (λ m. Err (book_fault m (refusal_offset f e m))) k ∙ sym (cond-false (eqb (body_refusal f b e) 0) _ _ (ne_eqb (body_refusal f b e) 0 (λ q. omega arith)))

  taken_refusal : (next : Book) → body_entered f b e ≡ Ok next → body_refusal f b e ≡ 0
  unfolding body_entered
  taken_refusal next h =
      eqb-true (body_refusal f b e) 0 (true_from_ne_false (eqb (body_refusal f b e) 0) (λ t.
      let k : Err (book_fault (body_refusal f b e) (refusal_offset f e (body_refusal f b e))) ≡ Ok next = sym (cond-false (eqb (body_refusal f b e) 0) _ _ t) ∙ h in
      let y : ◌≡◌ {A = ℕ} 0 1 = cc in
      omega arith))

accepted_right : (f : List ℕ) (b : Book) (e : Entry) → body_refusal f b e ≡ 0 → wrong_pair f e ≡ None
unfolding body_refusal
accepted_right f b e h =
    let l = accepted_lawful b e.place (word f e.start) (word f (e.start + 2)) (byte f (e.start + 4)) (body_pairs f e) h in
    let r : rising 0 (body_pairs f e) ≡ true = grind (arith, nat_tests) in
    let w : weighted (body_pairs f e) ≡ true = grind (arith, nat_tests) in
    lawful_right (body_pairs f e) 0 (e.start + 6) r w

-- a body that is entered has no wrong pair
pub entered_right : (f : List ℕ) (b next : Book) (e : Entry) → Ok next ≡ body_entered f b e → wrong_pair f e ≡ None
entered_right f b next e h = accepted_right f b e (taken_refusal f b e next (sym h))

-- one more body without a wrong pair
pub right_more : (f : List ℕ) (es : List Entry) (i : ℕ) → i < length es → wrong_in f (take i es) ≡ None → wrong_in f (take (i + 1) es) ≡ wrong_pair f (get_or es i blank)
right_more f es i lt h = ap (wrong_in f) (take_more es i blank lt) ∙ wrong_push f (take i es) (get_or es i blank) h

-- a step over the bodies
module _ (f : List ℕ) (b : Book) (es : List Entry) (i : ℕ) (lt : i < length es) where
  abbrev here : Entry
  here = get_or es i blank

  entered_next : bodies_entered f b (drop i es) ≡ and_then (body_entered f b here) (λ next. bodies_entered f next (drop (i + 1) es))
  entered_next = at_drop_more (bodies_entered f b) es i blank lt

  pub entered_goes : (next : Book) → Ok next ≡ body_entered f b here → bodies_entered f b (drop i es) ≡ bodies_entered f next (drop (i + 1) es)
  entered_goes next h = entered_next ∙ ap (λ r. and_then r (λ x. bodies_entered f x (drop (i + 1) es))) (sym h)

  pub entered_stops : (t : Told) → Err t ≡ body_entered f b here → bodies_entered f b (drop i es) ≡ Err t
  entered_stops t h = entered_next ∙ ap (λ r. and_then r (λ x. bodies_entered f x (drop (i + 1) es))) (sym h)

pub within_take : (f : List ℕ) (es : List Entry) (i : ℕ) → within f es ≡ true → within f (take i es) ≡ true
within_take f [] zero h = refl
within_take f [] (suc i) h = refl
within_take f (e ∷ es) zero h = refl
within_take f (e ∷ es) (suc i) h = let p = and_parts _ _ h in and_from _ _ p.0 (within_take f es i p.1)

pub within_at : (f : List ℕ) (es : List Entry) (i : ℕ) → i < length es → within f es ≡ true → (get_or es i blank).start + 6 + 3 * pair_count f (get_or es i blank) ≤ length f
within_at f [] i lt h = absurd (omega arith)
within_at f (e ∷ es) zero lt h = leb-true _ _ (and_parts _ _ h).0
within_at f (e ∷ es) (suc i) lt h = within_at f es i (omega arith) (and_parts _ _ h).1

right_placed : (f : List ℕ) (start : ℕ) (before : List Entry) (e : Entry) → entry_number f start before e ≡ 0 → placed f start before e ≡ true
right_placed f start before e h = true_from_ne_false (placed f start before e) (λ t. let n = number_unplaced f start before e t in omega arith)

right_sized : (f : List ℕ) (start : ℕ) (before : List Entry) (e : Entry) → placed f start before e ≡ true → entry_number f start before e ≡ 0 → sized f e ≡ true
right_sized f start before e p h = true_from_ne_false (sized f e) (λ t. let n = number_unsized f start before e p t in omega arith)

entries_within : (f : List ℕ) (at start : ℕ) (before es : List Entry) → entries_fault f at start before es ≡ None → within f es ≡ true
entries_within f at start before [] h = refl
entries_within f at start before (e ∷ es) h =
    let n = entry_number f start before e in
    let t : eqb n 0 ≡ true = true_from_ne_false (eqb n 0) (λ u. none-some (file_fault n at) (sym h ∙ cond-false (eqb n 0) _ _ u)) in
    let z : entry_number f start before e ≡ 0 = eqb-true n 0 t in
    let p = right_placed f start before e z in
    let q = right_sized f start before e p z in
    let l : e.start + 6 + 3 * pair_count f e ≤ length f = grind (arith, nat_tests) in
    and_from _ _ (le-leb _ _ l) (entries_within f (at + 5) (body_end e) (before ++ e ∷ []) es (sym (cond-true (eqb n 0) _ _ t) ∙ h))

-- where the contents are right, each body lies in the file
pub contents_within : (f : List ℕ) → contents_fault f ≡ None → within f (contents f) ≡ true
unfolding contents_fault
contents_within f h =
    let t : contents_fit f ≡ true = true_from_ne_false (contents_fit f) (λ u. none-some (file_fault 20 0) (sym h ∙ cond-false (contents_fit f) _ _ u)) in
    entries_within f 1 (contents_end f) [] (contents f) (sym (cond-true (contents_fit f) _ _ t) ∙ h)

-- a refusal has a number, and 5 is a refused table alone
pub numbered : (r : Refusal) → (1 ≤ number r) × (number r ≡ 5 → r ≡ Table)
numbered Place = (omega arith, λ e. absurd (omega arith))
numbered Period = (omega arith, λ e. absurd (omega arith))
numbered Phase = (omega arith, λ e. absurd (omega arith))
numbered Deadline = (omega arith, λ e. absurd (omega arith))
numbered Table = (omega arith, λ _. refl)
numbered Hyperperiod = (omega arith, λ e. absurd (omega arith))
numbered Jobs = (omega arith, λ e. absurd (omega arith))
numbered Empty = (omega arith, λ e. absurd (omega arith))
numbered Rounds = (omega arith, λ e. absurd (omega arith))
numbered Sheet = (omega arith, λ e. absurd (omega arith))
numbered NoJob = (omega arith, λ e. absurd (omega arith))
numbered Window = (omega arith, λ e. absurd (omega arith))
numbered TooHeavy = (omega arith, λ e. absurd (omega arith))

-- where a refusal is told
module _ (f : List ℕ) (e : Entry) where
  pub offset_body : (r : Refusal) → (r ≡ Table → ⊥) → refusal_offset f e (number r) ≡ e.start
  unfolding refusal_offset
  offset_body r h = cond-false (eqb (number r) 5) _ _ (ne_eqb (number r) 5 (λ e. h ((numbered r).1 e)))

  pub offset_count : (r : Refusal) → r ≡ Table → (n : ℕ) → n ≡ pair_count f e → (n ≡ 0) ⊎ ((n ≡ 0 → ⊥) × (16 < n)) → refusal_offset f e (number r) ≡ e.start + 5
  unfolding refusal_offset
  offset_count r is n k h =
      let t : (leb 1 (pair_count f e) && leb (pair_count f e) 16) ≡ false =
      ⊎_elim (λ (z : n ≡ 0). and_left _ _ (lt-leb 1 (pair_count f e) (omega arith))) (λ (z : (n ≡ 0 → ⊥) × (16 < n)). and_right _ _ (lt-leb (pair_count f e) 16 (omega (arith, z.1)))) h in
      ap (λ x. cond (eqb (number x) 5) (table_offset f e) e.start) is ∙ cond-false (leb 1 (pair_count f e) && leb (pair_count f e) 16) _ _ t

  pub offset_pair : (r : Refusal) → r ≡ Table → (n : ℕ) → n ≡ pair_count f e → (n ≡ 0 → ⊥) → n ≤ 16 → refusal_offset f e (number r) ≡ unwrap_or (wrong_pair f e) (e.start + 5)
  unfolding refusal_offset
  offset_pair r is n k low high =
      let t : (leb 1 (pair_count f e) && leb (pair_count f e) 16) ≡ true = and_from _ _ (le-leb 1 (pair_count f e) (omega arith)) (le-leb (pair_count f e) 16 (omega arith)) in
      ap (λ x. cond (eqb (number x) 5) (table_offset f e) e.start) is ∙ cond-true (leb 1 (pair_count f e) && leb (pair_count f e) 16) _ _ t

-- what entering all bodies into a new draft comes to
pub contents_entered : (f : List ℕ) (r : Result Book Told) (b : Book) (es xs : List Entry) → r ≡ bodies_entered f b xs → xs ≡ es → es ≡ contents f → b ≡ new_book → r ≡ bodies_entered f new_book (contents f)
contents_entered f r b es xs h p q n = h ∙ (ap (bodies_entered f b) (p ∙ q) ∙ ap (λ x. bodies_entered f x (contents f)) n)

-- what loading gives, step by step
pub loaded_contents : (f : List ℕ) (t : Told) → contents_fault f ≡ Some t → loaded f ≡ Err t
unfolding loaded
loaded_contents f t h = ap (λ o. unless o (and_then (bodies_entered f new_book (contents f)) (ended f))) h

pub loaded_bodies : (f : List ℕ) (t : Told) → contents_fault f ≡ None → Err t ≡ bodies_entered f new_book (contents f) → loaded f ≡ Err t
unfolding loaded
loaded_bodies f t h k = ap (λ o. unless o (and_then (bodies_entered f new_book (contents f)) (ended f))) h ∙ ap (λ r. and_then r (ended f)) (sym k)

pub loaded_trailing : (f : List ℕ) (b : Book) → contents_fault f ≡ None → Ok b ≡ bodies_entered f new_book (contents f) → bodies_end f < length f → loaded f ≡ Err (file_fault 23 (bodies_end f))
unfolding loaded
loaded_trailing f b h k l =
    ap (λ o. unless o (and_then (bodies_entered f new_book (contents f)) (ended f))) h ∙ (ap (λ r. and_then r (ended f)) (sym k) ∙ cond-false (leb (length f) (bodies_end f)) _ _ (lt-leb _ _ l))

pub loaded_whole : (f : List ℕ) (b : Book) → contents_fault f ≡ None → Ok b ≡ bodies_entered f new_book (contents f) → length f ≤ bodies_end f → loaded f ≡ Ok b
unfolding loaded
loaded_whole f b h k l =
    ap (λ o. unless o (and_then (bodies_entered f new_book (contents f)) (ended f))) h ∙ (ap (λ r. and_then r (ended f)) (sym k) ∙ cond-true (leb (length f) (bodies_end f)) _ _ (le-leb _ _ l))
