pub mod Complete
pub mod Lengths
pub mod Levels
pub mod Locality
pub mod Many
pub mod Sorts
pub mod Sound
pub mod Whole
