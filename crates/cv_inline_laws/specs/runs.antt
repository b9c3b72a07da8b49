pub mod Texts
pub mod Contexts
