pub mod Listing
mod Truths
