pub mod Listed
pub mod Callings
pub mod BranchForms
pub mod Subtrees
