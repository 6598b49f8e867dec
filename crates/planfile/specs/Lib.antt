pub mod Faults
pub mod Fields
pub mod Contents
pub mod Bodies
pub mod Loads
pub mod Pages
pub mod Reports
