pub mod Walks
pub mod Copied
pub mod CopyWalks
