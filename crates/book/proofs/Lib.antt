pub mod Clears
pub mod Window
pub mod Asked
pub mod Rounds
pub mod Plans
