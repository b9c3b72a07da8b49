pub mod Texts
pub mod Labels
pub mod Fresh
