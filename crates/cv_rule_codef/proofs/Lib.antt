pub mod Following
pub mod Sites
pub mod Known
pub mod Together
pub mod Around
pub mod Listed
pub mod Reworded
pub mod Keeping
pub mod Sound
mod WorkedCodefs
mod Looks
mod Planned
