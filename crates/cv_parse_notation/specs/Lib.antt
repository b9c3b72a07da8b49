pub mod Fits
pub mod Form
pub mod Local
pub mod Marks
pub mod Reads
pub mod ScriptWords
pub mod Spells
pub mod Whole
