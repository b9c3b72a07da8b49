pub mod Matchings
pub mod Walks
