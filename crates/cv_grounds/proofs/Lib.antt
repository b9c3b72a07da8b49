pub mod Growing
mod Listing
