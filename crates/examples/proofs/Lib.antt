pub mod Thirds
