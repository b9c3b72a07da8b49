pub mod Inlining
pub mod Accepted
pub mod Related
