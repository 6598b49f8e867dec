pub mod Twins
pub mod Lawful
pub mod Slow
pub mod Next
pub mod Asked
pub mod Answers
pub mod Along
