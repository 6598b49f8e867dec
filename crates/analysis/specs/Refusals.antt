-- The number of each refusal of an operation on a sheet. Assumes nothing.
use Rattle.std.specs.Prelude.{ℕ}
use Rattle.analysis.specs.declared.sheet_refusal.SheetRefusal.{SheetRefusal}
use Rattle.analysis.specs.declared.sheet_refusal.SheetRefusal.TheVariants.{Short}

abbrev pub sheet_number : SheetRefusal → ℕ
sheet_number Short = 10
