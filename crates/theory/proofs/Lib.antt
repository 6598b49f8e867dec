pub mod Sums
pub mod Pushed
pub mod Tails
pub mod Moves
pub mod Rounded
pub mod Cells
pub mod Loops
