pub mod Semiring
pub mod Stopped
pub mod Summing
pub mod StoppedWeight
pub mod Counts
pub mod Heaviests
pub mod Possibles
