pub mod Searches
pub mod Sites
