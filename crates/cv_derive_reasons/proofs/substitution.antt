pub mod Unders
