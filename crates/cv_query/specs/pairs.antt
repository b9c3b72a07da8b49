pub mod Made
pub mod Proved
pub mod CopyPairs
