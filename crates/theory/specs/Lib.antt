pub mod Semiring
pub mod Sums
pub mod Walk
pub mod Theorems
pub mod Rounded
