pub mod Spots
pub mod Words
