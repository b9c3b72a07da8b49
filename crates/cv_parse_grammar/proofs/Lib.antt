pub mod Filling
pub mod Fitting
pub mod Identities
pub mod InOrder
pub mod Marks
pub mod Names
pub mod Outcome
