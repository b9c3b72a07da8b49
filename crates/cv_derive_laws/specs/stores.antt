pub mod Reached
pub mod Truth
pub mod Holding
pub mod Unreached
pub mod Soundness
pub mod Costs
pub mod Steps
