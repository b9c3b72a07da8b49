pub mod Regions
pub mod Steps
pub mod Frames
pub mod Readings
pub mod Pieces
pub mod Translations
pub mod Worked
