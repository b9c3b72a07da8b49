pub mod GameSays
pub mod Texts
pub mod files
