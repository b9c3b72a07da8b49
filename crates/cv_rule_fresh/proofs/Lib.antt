pub mod Leads
pub mod Standing
pub mod Scope
pub mod Missed
pub mod Runs
pub mod Hits
pub mod Listed
pub mod Values
pub mod Branches
pub mod Reworded
pub mod Keeping
pub mod Sound
mod Ways
mod Seeing
mod Planned
