pub mod Definitions
pub mod Laid
pub mod Checked
pub mod Kept
pub mod Own
pub mod Whole
