pub mod Stacks
pub mod Listing
