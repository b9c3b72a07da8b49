pub mod Ends
pub mod Routes
pub mod Marked
pub mod Walks
pub mod Lists
pub mod Secrets
