pub mod Items
pub mod Layout
pub mod Prints
