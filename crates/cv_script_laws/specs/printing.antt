pub mod Back
pub mod Trees
