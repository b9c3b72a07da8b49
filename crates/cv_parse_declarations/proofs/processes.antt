pub mod Says
pub mod Entries
