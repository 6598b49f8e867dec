-- The rounded late weight is close to the exact share, and worse tables never make it smaller. Assumes nothing.
use Rattle.std.proofs.Common.{◌≡◌, ℕ, ◌+◌, ◌-◌, ◌^◌, ◌≤◌, List, [], ◌∷◌, ◌++◌, length, sym, ap, ◌∙◌, subst, subst₂}
use Rattle.theory.specs.Walk.{Table, Leg, sheet, rest, after, from}
use Rattle.theory.specs.Rounded.{nat_ops, nat_least, totals, rounded_start, rounded, SoundLeg, Close}
use Rattle.theory.specs.Rounded.{Sound as SoundLegs}
use Rattle.theory.specs.Theorems.{Fair}
use Rattle.theory.proofs.Moves.{moves_fair}
use Rattle.theory.proofs.Rounded.{nat_laws, rounded_stands}
use Rattle.theory.proofs.Cells.{by_cells}
use Rattle.scenarios.specs.Questions.{Counted, Question, upto, drawn_from, tables}
use Rattle.scenarios.specs.Walks.{legs_upto, legs_later, legs, rounded_late}
use Rattle.scenarios.specs.Theorems.{Fit, AllFit, Sound, Harder, WorseQuestion, RoundedClose, RoundedNeverBetter}
use Rattle.scenarios.proofs.SheetWalk.{opening_below}
use Rattle.scenarios.proofs.Eased.{upto_fit, later_fit, legs_harder}
use Rattle.scenarios.proofs.Exact.{leg_tables, walk_late}
use Rattle.scenarios.proofs.Plain.{question_plain}
use Rattle.scenarios.proofs.RoundedWorse.{Level, rounded_worse, start_worse}
use Rattle.scenarios.proofs.RoundedWalk.{rounded_is_walk}

-- each leg rises, stays, and has a weight
sound_leg : (move : ℕ → ℕ → ℕ) (k : Counted) → Fair move → Fit k.pairs → SoundLeg (record { move = move; table = drawn_from k.pairs })
sound_leg move k fair fit = record { rises = fair.rises; stays = fair.stays; weighs = fit.some }

sound_later : (a : ℕ) (ks : List Counted) → AllFit ks → SoundLegs (legs_later a ks)
sound_later a [] fit = tt
sound_later a (k ∷ ks) fit = (sound_leg (from (k.release - a)) k (moves_fair.1 (k.release - a)) fit.0, sound_later a ks fit.1)

sound_upto : (last : ℕ) (ks : List Counted) (ls : List Leg) → AllFit ks → SoundLegs ls → SoundLegs (legs_upto last ks ++ ls)
sound_upto last [] ls fit sound = sound
sound_upto last (k ∷ ks) ls fit sound =
    (sound_leg (after (k.release - last)) k (moves_fair.0 (k.release - last)) fit.0, sound_upto k.release ks ls fit.1 sound)

legs_sound : (q : Question) → Sound q → SoundLegs (legs q)
unfolding legs
legs_sound q sound = sound_upto 0 (upto q) _ (upto_fit q sound) (sound_later q.job.release q.later (later_fit q sound))

late_is_walk : (q : Question) → Sound q → rounded_late q ≡ rounded (legs q) (rounded_start (2 ^ 20) (drawn_from q.opening)) (q.deadline + 1)
unfolding rounded_late
late_is_walk q sound = ap (λ (R : ℕ → ℕ). R (q.deadline + 1)) (rounded_is_walk q sound)

-- close to the exact share
pub rounded_close : RoundedClose
rounded_close q sound =
    let opening : Table = drawn_from q.opening in
    let exact = rounded_stands opening (legs q) (opening_below q sound) sound.opening_fits.some (legs_sound q sound) (q.deadline + 1) in
    let named = subst (λ (ts : List Table). Close (2 ^ 20) (totals (opening ∷ ts)) (length (opening ∷ ts)) (rest nat_ops 257 (sheet nat_ops 257 opening (legs q)) (q.deadline + 1))
    (rounded (legs q) (rounded_start (2 ^ 20) opening) (q.deadline + 1))) (leg_tables q) exact in
    subst₂ (λ (a b : ℕ). Close (2 ^ 20) (totals (tables q)) (length (tables q)) a b) (walk_late nat_laws q sound) (sym (late_is_walk q sound)) named

-- the same totals, leg by leg
level_later : (a b : ℕ) (ls ks : List Counted) → Harder nat_ops nat_least ls ks → Level (legs_later a ls) (legs_later b ks)
level_later a b [] [] h = tt
level_later a b [] (k ∷ ks) h = absurd h
level_later a b (l ∷ ls) [] h = absurd h
level_later a b (l ∷ ls) (k ∷ ks) h = (h.2, level_later a b ls ks h.3)

level_upto : (a b : ℕ) (ls ks : List Counted) (ls' ks' : List Leg) → Harder nat_ops nat_least ls ks → Level ls' ks'
    → Level (legs_upto a ls ++ ls') (legs_upto b ks ++ ks')
level_upto a b [] [] ls' ks' h level = level
level_upto a b [] (k ∷ ks) ls' ks' h level = absurd h
level_upto a b (l ∷ ls) [] ls' ks' h level = absurd h
level_upto a b (l ∷ ls) (k ∷ ks) ls' ks' h level = (h.2, level_upto l.release k.release ls ks ls' ks' h.3 level)

legs_level : (q r : Question) → WorseQuestion nat_ops nat_least q r → Level (legs q) (legs r)
unfolding legs
legs_level q r worse =
    level_upto 0 0 (upto q) (upto r) _ _ worse.before_worse (level_later q.job.release r.job.release q.later r.later worse.later_worse)

-- worse tables never make the rounded late weight smaller
pub rounded_never_better : RoundedNeverBetter
rounded_never_better q r f g counts =
    let worse : WorseQuestion nat_ops nat_least q r = question_plain q r f g counts in
    let O : Table = drawn_from q.opening in
    let P : Table = drawn_from r.opening in
    let R : ℕ → ℕ = rounded_start (2 ^ 20) O in
    let R' : ℕ → ℕ = rounded_start (2 ^ 20) P in
    let less : (y : ℕ) → rounded (legs r) R' y ≤ rounded (legs q) R y =
    rounded_worse (legs q) (legs r) R R' (legs_sound q f) (legs_sound r g) (legs_harder nat_ops nat_least q r f g worse) (legs_level q r worse)
    (by_cells.0 (2 ^ 20) O (opening_below q f) f.opening_fits.some) (by_cells.0 (2 ^ 20) P (opening_below r g) g.opening_fits.some)
    (start_worse (2 ^ 20) O P (opening_below q f) (opening_below r g) f.opening_fits.some worse.opening_total worse.opening_worse) in
    subst₂ (λ (a b : ℕ). a ≤ b)
    (ap (λ (D : ℕ). rounded (legs r) R' (D + 1)) worse.same_deadline ∙ sym (late_is_walk r g)) (sym (late_is_walk q f))
    (less (q.deadline + 1))
