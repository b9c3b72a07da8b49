pub mod Fresh
pub mod Texts
pub mod Names
pub mod Covered
