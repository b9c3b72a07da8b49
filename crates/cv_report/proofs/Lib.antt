pub mod Counts
pub mod Takes
pub mod Streams
pub mod Texts
