pub mod Parts
pub mod Rows
pub mod Readers
pub mod Carrying
