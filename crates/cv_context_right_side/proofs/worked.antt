pub mod Step
pub mod Drawn
