pub mod Barred
pub mod Timed
