pub mod Trees
pub mod Pairs
pub mod Apart
pub mod Decided
pub mod First
pub mod Plain
pub mod Unbound
pub mod Ranges
