pub mod Reads
pub mod SmallIndices
