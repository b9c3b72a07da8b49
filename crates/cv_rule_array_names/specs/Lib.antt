pub mod Sites
pub mod Owners
pub mod Row
pub mod Planned
pub mod Mixed
pub mod Worked
pub mod Drawings
