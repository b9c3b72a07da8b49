pub mod Adding
pub mod ByKind
pub mod Choosing
pub mod Branches
pub mod ByHead
pub mod Arguments
pub mod Whole
pub mod Called
