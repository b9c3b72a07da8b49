pub mod News
pub mod Replications
pub mod Typed
