pub mod Kept
pub mod Terms
pub mod Calls
pub mod Finds
pub mod Served
pub mod Runs
