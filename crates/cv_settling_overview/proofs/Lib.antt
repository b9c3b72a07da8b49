mod Placing
pub mod Reading
pub mod Keeping
mod Finding
