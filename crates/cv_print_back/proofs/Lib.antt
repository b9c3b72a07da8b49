pub mod Back
pub mod GameExactness
pub mod TermExactness
