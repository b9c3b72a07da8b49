pub mod Constructs
pub mod Named
pub mod Asked
pub mod One
pub mod Keeping
pub mod Sound
mod WorkedMerges
mod Looks
mod Planned
