pub mod Aligned
pub mod Closing
