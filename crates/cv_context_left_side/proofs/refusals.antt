pub mod Children
pub mod Small
pub mod Keys
pub mod Cells
pub mod Games
pub mod Whole
pub mod Worked
