pub mod Braces
pub mod Openings
pub mod ScriptSigns
pub mod Signs
pub mod Worked
