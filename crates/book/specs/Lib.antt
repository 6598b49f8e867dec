pub mod Refusals
pub mod Moves
pub mod Drafts
pub mod Asks
pub mod Granted
pub mod Batches
