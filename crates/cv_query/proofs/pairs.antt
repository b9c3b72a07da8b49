pub mod Distinguishing
pub mod Ending
pub mod Growing
pub mod Tried
pub mod Unproved
pub mod Copying
pub mod Following
