pub mod Buffered
pub mod Scripted
