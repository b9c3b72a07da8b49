pub mod Sides
pub mod Contexts
pub mod Tapes
pub mod Fixed
