pub mod Happening
pub mod Behind
pub mod Sites
mod Putting
pub mod Naming
pub mod Meeting
pub mod Closing
