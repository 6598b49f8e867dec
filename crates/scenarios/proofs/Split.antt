-- The state at a tick as two parts: jobs that are released, and jobs that no tick has touched yet. Assumes nothing.
use Rattle.std.proofs.Common.{◌≡◌, ℕ, zero, suc, ◌+◌, ◌-◌, ◌<◌, ◌≤◌, Bool, true, false, List, [], ◌∷◌, ◌++◌, length, sym, refl, ap, ◌∙◌, subst, append_assoc, arith, length-append}
use native.Mathlib.Nat.{sub-zero}
use lib.Seq.{take-append_seam}
use Rattle.std.specs.List.{AllByRecursion as All}
use Rattle.std.proofs.ByRecursion.{All-weaker, All-push}
use Rattle.scenarios.specs.Processor.{Item, State, foremost, served, tick, state_at, total, total_of}
use Rattle.scenarios.specs.Questions.{unserved_first}
use Rattle.scenarios.proofs.Foremost.{serve_drops, serve_released, serve_releases, length_serve}

abbrev pub state : ℕ → List Item → State
state o jobs = record { opening = o; jobs = jobs }

-- at tick n the jobs are k that are released by m, and then `back`; the opening and the k jobs have w ticks left
pub record Split (s : State) (n m k : ℕ) (back : List Item) (w : ℕ) : Type 0 where
  pub opening : ℕ
  pub front : List Item
  pub is : state_at s n ≡ state opening (front ++ back)
  pub released : All (λ x. x.release ≤ m) front
  pub count : length front ≡ k
  pub work : opening + total front ≡ w

released_by : (m n : ℕ) → m ≤ n → (xs : List Item) → All (λ x. x.release ≤ m) xs → All (λ x. x.release ≤ n) xs
released_by m n h xs a = All-weaker (λ x. x.release ≤ m) (λ x. x.release ≤ n) (λ x g. omega arith) xs a

pub widened : {s : State} {n m k : ℕ} {back : List Item} {w : ℕ} (l : ℕ) → m ≤ l → Split s n m k back w → Split s n l k back w
widened {m = m} l le h = record { opening = h.opening; front = h.front; is = h.is; released = released_by m l le h.front h.released; count = h.count; work = h.work }

-- One tick.

served_split : (t o : ℕ) (front back : List Item) → All (λ x. t < x.release) back
    → served t o (front ++ back) ≡ state (served t o front).opening ((served t o front).jobs ++ back)
served_split t zero front back a = ap (state 0) (serve_released t front back a)
served_split t (suc o) front back a = refl

served_work : (t o : ℕ) (front : List Item) → All (λ x. x.release ≤ t) front → (served t o front).opening + total (served t o front).jobs ≡ (o + total front) - 1
served_work t zero front a = omega (arith, serve_drops t front a)
served_work t (suc o) front a = omega arith

served_releases : (t o m : ℕ) (front : List Item) → All (λ x. x.release ≤ m) front → All (λ x. x.release ≤ m) (served t o front).jobs
served_releases t zero m front a = serve_releases (foremost t front) m front a
served_releases t (suc o) m front a = a

length_served : (t o : ℕ) (front : List Item) → length (served t o front).jobs ≡ length front
length_served t zero front = length_serve (foremost t front) front
length_served t (suc o) front = refl

pub ticked : {s : State} {n m k : ℕ} {back : List Item} {w : ℕ} → m ≤ n → All (λ x. n < x.release) back → Split s n m k back w → Split s (suc n) m k back (w - 1)
unfolding state_at
ticked {s} {n} {m} {k} {back} {w} le a h = record {
  opening = (served n h.opening h.front).opening;
  front = (served n h.opening h.front).jobs;
  is = ap (tick n) h.is ∙ served_split n h.opening h.front back a;
  released = served_releases n h.opening m h.front h.released;
  count = length_served n h.opening h.front ∙ h.count;
  work = served_work n h.opening h.front (released_by m n le h.front h.released) ∙ ap (λ x. x - 1) h.work;
}

-- Some ticks, up to r, before which nothing of the back is released.
pub reached : {s : State} {m k : ℕ} {back : List Item} (d n r w : ℕ) → r ≡ d + n → m ≤ n → All (λ x. r ≤ x.release) back → Split s n m k back w → Split s r m k back (w - d)
reached {s} {m} {k} {back} zero n r w e le a h =
    let here : n ≡ r = omega arith in
    subst (λ x. Split s x m k back (w - 0)) here (rw sub-zero h)
reached {s} {m} {k} {back} (suc d) n r w e le a h =
    let once : Split s (suc n) m k back (w - 1) = ticked le (All-weaker (λ x. r ≤ x.release) (λ x. n < x.release) (λ x g. omega arith) back a) h in
    let sum : (w - 1) - d ≡ w - suc d = omega arith in
    subst (λ x. Split s r m k back x) sum (reached d (suc n) r (w - 1) (omega arith) (omega arith) a once)

total_push : (xs : List Item) (y : Item) → total (xs ++ (y ∷ [])) ≡ total xs + y.left
total_push [] y = omega arith
total_push (x ∷ xs) y = omega (arith, total_push xs y)

-- The next job of the back is released.
pub joined : {s : State} {n m k : ℕ} {back : List Item} {w : ℕ} (y : Item) → m ≤ n → y.release ≤ n → Split s n m k (y ∷ back) w → Split s n n (suc k) back (w + y.left)
joined {s} {n} {m} {k} {back} {w} y le by h = record {
  opening = h.opening;
  front = h.front ++ (y ∷ []);
  is = h.is ∙ ap (state h.opening) (sym (append_assoc h.front (y ∷ []) back));
  released = All-push (λ x. x.release ≤ n) h.front y (released_by m n le h.front h.released) by;
  count = omega (arith, length-append h.front (y ∷ []), h.count);
  work = omega (arith, total_push h.front y, h.work);
}

pub stepped : {s : State} {k : ℕ} {back : List Item} (n w : ℕ) (y : Item) → n ≤ y.release → All (λ x. y.release ≤ x.release) back
    → Split s n n k (y ∷ back) w → Split s y.release y.release (suc k) back ((w - (y.release - n)) + y.left)
stepped n w y le a h =
    let same : y.release ≤ y.release = omega arith in
    joined y le same (reached (y.release - n) n y.release w (omega arith) (omega arith) (same, a) h)

-- What the front has left.

pub seen_first : {s : State} {n m k : ℕ} {back : List Item} {w : ℕ} → Split s n m k back w → unserved_first s k n ≡ w
seen_first {s} {n} {m} {k} {back} h = rw (h.is, ← h.count, take-append_seam) h.work

total_of_all : (p : Item → Bool) (xs ys : List Item) → All (λ x. p x ≡ true) xs → All (λ x. p x ≡ false) ys → total_of p (xs ++ ys) ≡ total xs
total_of_all p [] [] a b = refl
total_of_all p [] (y ∷ ys) a b = rw b.0 (omega (arith, total_of_all p [] ys a b.1))
total_of_all p (x ∷ xs) ys a b = rw a.0 (ap (λ n. x.left + n) (total_of_all p xs ys a.1 b))

pub seen : {s : State} {n m k : ℕ} {back : List Item} {w : ℕ} (p : Item → Bool) → ((x : Item) → x.release ≤ m → p x ≡ true) → All (λ x. p x ≡ false) back
    → Split s n m k back w → (state_at s n).opening + total_of p (state_at s n).jobs ≡ w
seen {m = m} {back = back} p f a h = rw (h.is, total_of_all p h.front back (All-weaker (λ x. x.release ≤ m) (λ x. p x ≡ true) f h.front h.released) a) h.work

-- the releases do not fall, from low on
abbrev pub Ordered : ℕ → List Item → Type 0
Ordered low [] = Unit {0}
Ordered low (x ∷ xs) = (low ≤ x.release) × Ordered x.release xs

pub ordered_all : (low : ℕ) (xs : List Item) → Ordered low xs → All (λ x. low ≤ x.release) xs
ordered_all low [] h = tt
ordered_all low (x ∷ xs) h = (h.0, All-weaker (λ y. x.release ≤ y.release) (λ y. low ≤ y.release) (λ y g. omega arith) xs (ordered_all x.release xs h.1))

pub ordered_from : (low high : ℕ) → low ≤ high → (xs : List Item) → Ordered high xs → Ordered low xs
ordered_from low high le [] h = tt
ordered_from low high le (x ∷ xs) h = (omega (arith, h.0), h.1)
