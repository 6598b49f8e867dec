-- Readings of bytes and of fields, one after another.
use Rattle.std.specs.Prelude.{◌≡◌, ℕ, cond, List, [], ◌∷◌, Some, None, Option, MatchOption, ◌==◌}
use Rattle.std.specs.Option.{option_map}

-- a reading that goes on where there is a value
abbrev pub then : {X Y : Type 0} → Option X → (X → Option Y) → Option Y
then None go = None
then (Some x) go = go x

-- the bytes before the first one of a mark, and those after it
unfoldable pub cut : ℕ → List ℕ → Option (List ℕ × List ℕ)
cut mark [] = None
cut mark (b ∷ bs) = cond (b == mark) (Some ([], bs)) (option_map (λ c. (b ∷ c.0, c.1)) (cut mark bs))

-- the next field, read, and the fields after it
abbrev pub taken : {X : Type 0} → (List ℕ → Option X) → List (List ℕ) → Option (X × List (List ℕ))
taken read [] = None
taken read (f ∷ fs) = option_map (λ x. (x, fs)) (read f)

-- a field that is taken: what is read of it and the fields after it, or nothing
abbrev pub Takes : {X : Type 0} → (List ℕ → Option X) → List (List ℕ) → Option X → List (List ℕ) → Type 0
Takes read fs r after = MatchOption r (taken read fs ≡ None) (λ x. taken read fs ≡ Some (x, after))

-- the next field is read, and then the fields after it
abbrev pub next : {X Y : Type 0} → (List ℕ → Option X) → List (List ℕ) → (X → List (List ℕ) → Option Y) → Option Y
next read fs go = then (taken read fs) (λ t. go t.0 t.1)
