pub mod Processor
pub mod Questions
pub mod Walks
pub mod Theorems
