pub mod Builders
pub mod Children
pub mod Declarations
pub mod Head
pub mod Tree
pub mod sites
pub mod lists
