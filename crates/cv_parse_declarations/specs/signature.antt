pub mod Declares
pub mod Sides
pub mod Kinds
