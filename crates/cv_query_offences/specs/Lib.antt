pub mod Copies
pub mod Passing
