pub mod inferences
pub mod substitution
pub mod cells
pub mod late
pub mod sizes
pub mod injectivity
