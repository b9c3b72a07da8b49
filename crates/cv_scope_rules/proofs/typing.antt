pub mod Counts
pub mod Differences
pub mod First
pub mod Leaves
pub mod Single
pub mod Steps
