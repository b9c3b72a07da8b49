pub mod Conditions
pub mod Secrets
pub mod Sorts
pub mod Steps
pub mod reductions
