pub mod Kept
pub mod phrases
