pub mod visits
pub mod instances
