pub mod Leaves
pub mod Walks
pub mod Replications
pub mod Bound
pub mod Reached
pub mod Copies
mod Ended
pub mod Targets
