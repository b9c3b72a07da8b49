pub mod Settled
pub mod Terms
pub mod Copies
pub mod Standing
pub mod Names
pub mod Picks
pub mod Makers
pub mod Equal
pub mod Takes
pub mod Body
pub mod Changes
pub mod Keeping
pub mod Sound
mod WorkedPicks
