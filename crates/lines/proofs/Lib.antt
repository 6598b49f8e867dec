pub mod Fielded
pub mod Numbered
pub mod Held
pub mod Marked
pub mod Ranked
