pub mod Fetched
pub mod Refused
pub mod Written
