pub mod Ended
pub mod Told
pub mod Differing
pub mod Chosen
pub mod Kept
pub mod Bounded
