pub mod Instances
pub mod Measured
pub mod Picking
pub mod Putting
pub mod Rewritings
pub mod Seen
pub mod Truths
