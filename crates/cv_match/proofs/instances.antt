pub mod Walked
pub mod Calling
pub mod Heading
pub mod Testing
