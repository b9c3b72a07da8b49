pub mod Steps
pub mod Lists
