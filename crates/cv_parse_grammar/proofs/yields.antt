pub mod Naming
pub mod Yielding
