pub mod Comparing
pub mod Conditions
pub mod Keeping
pub mod Kept
pub mod Sound
