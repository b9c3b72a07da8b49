pub mod stores
pub mod late
pub mod reached
