pub mod Arguments
pub mod FirstBranches
pub mod EachOnce
