pub mod Terms
pub mod Bodies
pub mod Rows
pub mod Files
pub mod Types
pub mod TypedFiles
