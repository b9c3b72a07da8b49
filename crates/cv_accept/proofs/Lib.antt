pub mod Blocks
pub mod Fewness
pub mod Places
pub mod Readings
pub mod Stages
pub mod Telling
pub mod Weights
