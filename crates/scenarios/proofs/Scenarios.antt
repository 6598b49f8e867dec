-- What holds of every scenario of a question. Assumes nothing.
use Rattle.std.proofs.Common.{◌≡◌, ℕ, ◌<◌, Bool, List, [], ◌∷◌, map, refl}
use Rattle.std.specs.List.{filter, flat_map, AllByRecursion as All}
use Rattle.std.proofs.ByRecursion.{All-append, All-map, All-weaker}
use Rattle.theory.specs.Walk.{Table, draws}
use Rattle.analysis.specs.declared.pair.Pair.{Pair}
use Rattle.scenarios.specs.Questions.{Counted, Question, counted, drawn_from, scenarios}
use Rattle.scenarios.specs.Theorems.{Small, Sound}

-- a draw for each counted job
abbrev pub Long : List Counted → Table → Type 0
Long [] d = Unit {0}
Long (k ∷ ks) [] = ⊥
Long (k ∷ ks) (x ∷ d) = Long ks d

-- a small opening time, and a draw for each counted job
abbrev pub Scenario : Question → Table → Type 0
Scenario q [] = ⊥
Scenario q (x ∷ d) = (x.0 < 256) × Long (counted q) d

all_drawn : (P : Table → Type 0) (Q : ℕ × ℕ → Type 0) (t : Table) (ds : List Table) → All Q t → ((x : ℕ × ℕ) → Q x → All (λ d. P (x ∷ d)) ds)
    → All P (flat_map (λ x. map (λ d. x ∷ d) ds) t)
all_drawn P Q [] ds h f = tt
all_drawn P Q (x ∷ t) ds h f =
    All-append P (map (λ d. x ∷ d) ds) (flat_map (λ y. map (λ d. y ∷ d) ds) t) (All-map P (λ d. x ∷ d) ds (f x h.0)) (all_drawn P Q t ds h.1 f)

any : (t : Table) → All (λ x. Unit {0}) t
any [] = tt
any (x ∷ t) = (tt, any t)

all_long : (ks : List Counted) → All (Long ks) (draws (map (λ k. drawn_from k.pairs) ks))
all_long [] = (tt, tt)
all_long (k ∷ ks) =
    all_drawn (Long (k ∷ ks)) (λ x. Unit {0}) (drawn_from k.pairs) (draws (map (λ l. drawn_from l.pairs) ks)) (any (drawn_from k.pairs)) (λ x h. all_long ks)

small_times : (ps : List Pair) → Small ps → All (λ x. x.0 < 256) (drawn_from ps)
small_times [] h = tt
small_times (p ∷ ps) h = (h.0, small_times ps h.1)

pub all_scenarios : (q : Question) → Sound q → All (Scenario q) (scenarios q)
all_scenarios q sound =
    all_drawn (Scenario q) (λ x. x.0 < 256) (drawn_from q.opening) (draws (map (λ k. drawn_from k.pairs) (counted q)))
    (small_times q.opening sound.opening_fits.small)
    (λ x h. All-weaker (Long (counted q)) (λ d. Scenario q (x ∷ d)) (λ d l. (h, l)) (draws (map (λ k. drawn_from k.pairs) (counted q))) (all_long (counted q)))

-- equal tests keep the same
pub kept_same : {A : Type 0} (p r : A → Bool) (xs : List A) → All (λ x. p x ≡ r x) xs → filter p xs ≡ filter r xs
kept_same p r [] h = refl
kept_same p r (x ∷ xs) h = rw (h.0, kept_same p r xs h.1)
