pub mod Changes
pub mod Dropping
pub mod Parts
pub mod Plans
