pub mod Inclusion
pub mod Phrases
pub mod Chances
