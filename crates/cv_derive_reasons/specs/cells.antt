pub mod Cells
pub mod Only
