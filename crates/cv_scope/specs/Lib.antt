pub mod Seen
pub mod Held
pub mod Rising
pub mod heads
pub mod tables
