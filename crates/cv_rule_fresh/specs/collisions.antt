pub mod Equalities
pub mod Choices
pub mod Fresh
pub mod Chances
pub mod Worked
