pub mod Valued
pub mod Sound
