pub mod ShortList
pub mod Cells
pub mod Rounding
pub mod Refusals
pub mod Sheets
pub mod Kept
pub mod Inner
pub mod Ranks
