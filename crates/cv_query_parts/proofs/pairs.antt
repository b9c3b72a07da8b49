pub mod Marking
pub mod Leaving
pub mod Meeting
pub mod Making
pub mod Walking
pub mod Reaching
pub mod Copying
