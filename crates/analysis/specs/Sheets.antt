-- What an operation on a sheet answers: a sheet of 257 cells or more is changed, and a shorter one is refused and stays. Assumes nothing.
use Rattle.std.specs.Prelude.{◌≡◌, ℕ, ◌<◌, ◌≤◌, List, length, Result, MatchResult}
use Rattle.theory.specs.Semiring.{Ops}
use Rattle.analysis.specs.Cells.{cells}
use Rattle.analysis.specs.declared.sheet_refusal.SheetRefusal.{SheetRefusal}
use Rattle.analysis.specs.declared.sheet_refusal.SheetRefusal.TheVariants.{Short}

-- the refusal of a short sheet
abbrev pub RefusedShort : {K : Type 0} → List K → SheetRefusal → Type 0
RefusedShort xs e = (e ≡ Short) × (length xs < 257)

abbrev pub Done : {K R : Type 0} → Ops K → Result R SheetRefusal → List K → List K → ((ℕ → K) → ℕ → K) → Type 0
Done ops r old new op =
    MatchResult r (λ _. (257 ≤ length old) × (cells ops new ≡ op (cells ops old)))
    (λ e. (e ≡ Short) × (length old < 257) × (new ≡ old))
