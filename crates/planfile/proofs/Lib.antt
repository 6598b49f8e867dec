pub mod Listed
pub mod Wrong
pub mod Entering
pub mod Written
pub mod Lined
