-- What the code's sixteen places hold is lawful, and a write past them changes nothing.
use Rattle.std.proofs.Common.{◌≡◌, ℕ, zero, suc, ◌<◌, ◌≤◌, true, List, [], ◌∷◌, map, length, get_or, set, Some, None, Option, sym, refl, ap, ◌∙◌, arith}
use Rattle.std.proofs.lemmas.List.{length-map, get_or-map}
use Rattle.std.proofs.lemmas.Bool.{and_from}
use Rattle.board.specs.declared.tasks.Task.{Task}
use Rattle.board.specs.declared.places.Entries.{Entries}
use Rattle.board.specs.Model.{entry_lawful, all_lawful}
use Rattle.board.specs.Places.{entry_of, place_of, places}

records_lawful : (xs : List (Option Task)) → all_lawful (map place_of xs) ≡ true
records_lawful [] = refl
records_lawful (None ∷ xs) = records_lawful xs
records_lawful (Some t ∷ xs) = and_from (entry_lawful (entry_of t)) _ t.lawful (records_lawful xs)

pub entries_lawful : (e : Entries) → all_lawful (places e) ≡ true
entries_lawful e = records_lawful e.at

pub entries_long : (e : Entries) → length (places e) ≡ 16
entries_long e = simp length-map e.sixteen

-- what a loop over the places meets at place i
pub entries_at : (e : Entries) (i : ℕ) (r x : Option Task) → i < length e.at → get_or e.at i r ≡ x → place_of x ≡ get_or (places e) i None
entries_at e i r x lt is = ap place_of (sym is) ∙ sym (get_or-map place_of e.at i r None lt)

pub set_past : {X : Type 0} (xs : List X) (i : ℕ) (x : X) → length xs ≤ i → set xs i x ≡ xs
set_past [] i x h = refl
set_past (y ∷ ys) zero x h = absurd (omega arith)
set_past (y ∷ ys) (suc i) x h = ap (λ zs. y ∷ zs) (set_past ys i x (omega arith))

-- a place above 15 is past the sixteen
pub entries_past : (e : Entries) (i : ℕ) → 15 < i → length (places e) ≤ i
entries_past e i h = omega (arith, entries_long e)
