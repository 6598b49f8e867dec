pub mod Buffers
pub mod States
pub mod Questions
pub mod Replies
pub mod Scripts
pub mod Laws
