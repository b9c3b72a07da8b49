pub mod Parts
pub mod Rowed
pub mod Endings
pub mod Readings
mod Guards
pub mod Leading
