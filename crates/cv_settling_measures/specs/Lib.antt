pub mod Orphans
pub mod Parts
