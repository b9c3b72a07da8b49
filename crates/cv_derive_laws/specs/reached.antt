pub mod Fine
pub mod Copies
