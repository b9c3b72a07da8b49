pub mod Counts
pub mod Distinct
pub mod Decided
pub mod First
pub mod Parts
