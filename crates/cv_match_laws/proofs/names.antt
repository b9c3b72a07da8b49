pub mod Plain
pub mod Bindings
