use Rattle.theory.proofs.Cells.{by_cells}
use Rattle.theory.proofs.theorems.by_cells_stands.Goals as goal

pub returns : goal.returns
returns c = by_cells
