pub mod Phrases
pub mod Bodies
pub mod Rows
pub mod Files
