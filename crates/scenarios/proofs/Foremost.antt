-- A tick serves one tick of work wherever there is ready work, whichever item is foremost. Assumes nothing.
use Rattle.std.proofs.Common.{◌≡◌, ℕ, suc, ◌-◌, ◌<◌, ◌≤◌, Bool, true, false, cond, not, ◌&&◌, leb, ◌⊎◌, List, [], ◌∷◌, ◌++◌, length, refl, ap, inl, inr, arith}
use Rattle.std.specs.List.{AllByRecursion as All}
use Rattle.std.proofs.lemmas.Bool.{and_parts, and_from, cases_Bool, ltb-true, both_ways, not-true, not_from_false, and_left, lt-leb}
use Rattle.std.proofs.ByRecursion.{All-weaker}
use Rattle.std.proofs.lemmas.Bool.Decides.{nat_tests}
use Rattle.scenarios.specs.Processor.{Item, ahead, ready, nobody, foremost, one_less, serve, total}

irreflexive : (x : Item) → ahead x x ≡ false
irreflexive x = grind (arith, nat_tests)

pub transitive : (x y z : Item) → ahead x y ≡ true → ahead y z ≡ true → ahead x z ≡ true
transitive x y z p q = grind (arith, nat_tests)

-- what holds of no item of a list does not hold of one of its items, and a stronger test holds of none either
nobody_weaker : (p q : Item → Bool) → ((y : Item) → q y ≡ true → p y ≡ true) → (xs : List Item) → nobody p xs ≡ true → nobody q xs ≡ true
nobody_weaker p q f [] h = refl
nobody_weaker p q f (x ∷ xs) h =
    let (hx, hxs) = and_parts (not (p x)) (nobody p xs) h in
    and_from (not (q x)) (nobody q xs)
    (not_from_false (q x) (elim (cases_Bool (q x)) [ inl e ↦ absurd (both_ways (p x) (not-true (p x) hx) (f x e)) | inr e ↦ e ]))
    (nobody_weaker p q f xs hxs)

-- one of the ready items that no ready item goes ahead of
record First (t : ℕ) (xs : List Item) : Type 0 where
  item : Item
  is_ready : ready t item ≡ true
  unbeaten : nobody (λ y. ready t y && ahead y item) xs ≡ true
  among : (p : Item → Bool) → nobody p xs ≡ true → p item ≡ false

first : (t : ℕ) (xs : List Item) → (nobody (ready t) xs ≡ true) ⊎ First t xs
first t [] = inl refl
first t (x ∷ xs) = go (first t xs) (cases_Bool (ready t x))
  where
    -- x itself, where it is ready and no ready item of xs goes ahead of it
    leads : ready t x ≡ true → nobody (λ y. ready t y && ahead y x) xs ≡ true → First t (x ∷ xs)
    leads r h = record {
      item = x;
      is_ready = r;
      unbeaten = rw (irreflexive x, r) h;
      among = λ p e. not-true (p x) (and_parts (not (p x)) (nobody p xs) e).0;
    }

    stays : (m : First t xs) → (ready t x && ahead x m.item) ≡ false → First t (x ∷ xs)
    stays m n = record {
      item = m.item;
      is_ready = m.is_ready;
      unbeaten = rw n m.unbeaten;
      among = λ p e. m.among p (and_parts (not (p x)) (nobody p xs) e).1;
    }

    beats : (m : First t xs) → (ready t x && ahead x m.item) ≡ true → First t (x ∷ xs)
    beats m b =
        let both = and_parts (ready t x) (ahead x m.item) b in
        leads both.0 (nobody_weaker (λ y. ready t y && ahead y m.item) (λ y. ready t y && ahead y x)
        (λ y e. let h = and_parts (ready t y) (ahead y x) e in
        and_from (ready t y) (ahead y m.item) h.0 (transitive y x m.item h.1 both.1))
        xs m.unbeaten)

    go : ((nobody (ready t) xs ≡ true) ⊎ First t xs) → ((ready t x ≡ true) ⊎ (ready t x ≡ false)) → (nobody (ready t) (x ∷ xs) ≡ true) ⊎ First t (x ∷ xs)
    go (inl h) (inr n) = inl (rw n h)
    go (inl h) (inl r) = inr (leads r (nobody_weaker (ready t) (λ y. ready t y && ahead y x) (λ y e. (and_parts (ready t y) (ahead y x) e).0) xs h))
    go (inr m) r = inr (elim (cases_Bool (ready t x && ahead x m.item)) [ inl b ↦ beats m b | inr n ↦ stays m n ])

-- where nothing is served, nothing is ready
idle : (t : ℕ) (xs : List Item) → nobody (foremost t xs) xs ≡ true → nobody (ready t) xs ≡ true
idle t xs h = elim (first t xs) [
  | inl e ↦ e
  | inr m ↦ absurd (both_ways (foremost t xs m.item) (m.among (foremost t xs) h) (and_from (ready t m.item) _ m.is_ready m.unbeaten))
]

-- and no released job has work left
idle_total : (t : ℕ) (xs : List Item) → All (λ x. x.release ≤ t) xs → nobody (ready t) xs ≡ true → total xs ≡ 0
idle_total t [] a h = refl
idle_total t (x ∷ xs) a h =
    let both = and_parts (not (ready t x)) (nobody (ready t) xs) h in
    let unready : ready t x ≡ false = not-true (ready t x) both.0 in
    let none : x.left ≡ 0 = grind (arith, nat_tests) in
    omega (arith, idle_total t xs a.1 both.1)

-- one tick of work is served, or nobody was to be served
serve_total : (p : Item → Bool) → ((x : Item) → p x ≡ true → 0 < x.left) → (xs : List Item)
    → (suc (total (serve p xs)) ≡ total xs) ⊎ ((nobody p xs ≡ true) × (total (serve p xs) ≡ total xs))
serve_total p f [] = inr (refl, refl)
serve_total p f (x ∷ xs) = go (p x) refl (serve_total p f xs)
  where
    go : (b : Bool) → p x ≡ b → (suc (total (serve p xs)) ≡ total xs) ⊎ ((nobody p xs ≡ true) × (total (serve p xs) ≡ total xs))
        → (suc (total (cond b (one_less x ∷ xs) (x ∷ serve p xs))) ≡ total (x ∷ xs)) ⊎ (((not b && nobody p xs) ≡ true) × (total (cond b (one_less x ∷ xs) (x ∷ serve p xs)) ≡ total (x ∷ xs)))
    go true e h = inl (omega (arith, f x e))
    go false e (inl h) = inl (omega arith)
    go false e (inr h) = inr (h.0, omega (arith, h.1))

-- the key: of released jobs, a tick serves one tick of work while there is any, whichever is foremost
pub serve_drops : (t : ℕ) (xs : List Item) → All (λ x. x.release ≤ t) xs → total (serve (foremost t xs) xs) ≡ total xs - 1
serve_drops t xs a =
    elim (serve_total (foremost t xs) (λ x e. ltb-true 0 x.left (and_parts (leb x.release t) _ (and_parts (ready t x) _ e).0).1) xs) [
      | inl h ↦ omega arith
      | inr h ↦ omega (arith, h.1, idle_total t xs a (idle t xs h.0))
    ]

-- Jobs that are not released play no part.

unready : (t : ℕ) (x : Item) → t < x.release → ready t x ≡ false
unready t x h = and_left (leb x.release t) _ (lt-leb x.release t h)

nobody_append : (p : Item → Bool) (xs ys : List Item) → All (λ x. p x ≡ false) ys → nobody p (xs ++ ys) ≡ nobody p xs
nobody_append p [] [] a = refl
nobody_append p [] (y ∷ ys) a = rw a.0 (nobody_append p [] ys a.1)
nobody_append p (x ∷ xs) ys a = ap (λ b. not (p x) && b) (nobody_append p xs ys a)

serve_nobody : (p : Item → Bool) (ys : List Item) → All (λ x. p x ≡ false) ys → serve p ys ≡ ys
serve_nobody p [] a = refl
serve_nobody p (y ∷ ys) a = rw a.0 (ap (λ zs. y ∷ zs) (serve_nobody p ys a.1))

serve_append : (p q : Item → Bool) → ((x : Item) → p x ≡ q x) → (xs ys : List Item) → All (λ x. p x ≡ false) ys → serve p (xs ++ ys) ≡ serve q xs ++ ys
serve_append p q f [] ys a = serve_nobody p ys a
serve_append p q f (x ∷ xs) ys a = rw (f x, serve_append p q f xs ys a) (elim (q x) as (λ b. cond b (one_less x ∷ (xs ++ ys)) (x ∷ (serve q xs ++ ys)) ≡ cond b (one_less x ∷ xs) (x ∷ serve q xs) ++ ys) [ true ↦ refl | false ↦ refl ])

pub serve_released : (t : ℕ) (xs ys : List Item) → All (λ x. t < x.release) ys → serve (foremost t (xs ++ ys)) (xs ++ ys) ≡ serve (foremost t xs) xs ++ ys
serve_released t xs ys a =
    serve_append (foremost t (xs ++ ys)) (foremost t xs)
    (λ x. ap (λ b. ready t x && b) (nobody_append (λ y. ready t y && ahead y x) xs ys
    (All-weaker (λ y. t < y.release) (λ y. (ready t y && ahead y x) ≡ false) (λ y h. and_left (ready t y) _ (unready t y h)) ys a)))
    xs ys (All-weaker (λ y. t < y.release) (λ y. foremost t (xs ++ ys) y ≡ false) (λ y h. and_left (ready t y) _ (unready t y h)) ys a)

pub serve_releases : (p : Item → Bool) (m : ℕ) (xs : List Item) → All (λ x. x.release ≤ m) xs → All (λ x. x.release ≤ m) (serve p xs)
serve_releases p m [] a = tt
serve_releases p m (x ∷ xs) a = elim (p x) as (λ b. All (λ y. y.release ≤ m) (cond b (one_less x ∷ xs) (x ∷ serve p xs))) [ true ↦ (a.0, a.1) | false ↦ (a.0, serve_releases p m xs a.1) ]

pub length_serve : (p : Item → Bool) (xs : List Item) → length (serve p xs) ≡ length xs
length_serve p [] = refl
length_serve p (x ∷ xs) = elim (p x) as (λ b. length (cond b (one_less x ∷ xs) (x ∷ serve p xs)) ≡ suc (length xs)) [ true ↦ refl | false ↦ ap suc (length_serve p xs) ]
