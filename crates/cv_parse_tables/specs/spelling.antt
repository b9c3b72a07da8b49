pub mod ScriptSpelling
pub mod Spelling
