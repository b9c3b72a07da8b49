pub mod Quiet
pub mod Twins
