pub mod Fitting
pub mod Matched
pub mod reads
pub mod instances
