pub mod Looking
pub mod Runs
pub mod Visits
pub mod Branches
