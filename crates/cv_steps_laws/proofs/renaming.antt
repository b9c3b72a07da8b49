pub mod Names
pub mod Values
pub mod Candidates
pub mod Services
pub mod Cells
pub mod Chances
pub mod Sizes
pub mod Keeping
