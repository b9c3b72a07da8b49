pub mod refusals
pub mod cells
