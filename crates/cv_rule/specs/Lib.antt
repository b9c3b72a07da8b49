pub mod Listing
pub mod Prepared
pub mod Stated
pub mod edit
