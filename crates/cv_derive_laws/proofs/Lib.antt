pub mod Substitution
pub mod Truths
pub mod Reasons
pub mod Data
pub mod Blocks
