pub mod Birthdays
pub mod Changing
mod Fitting
pub mod Freshness
pub mod Guessing
pub mod Indexing
pub mod Merging
mod Orphans
mod Putting
pub mod Refused
mod Typed
pub mod Unchanged
pub mod Unletting
