pub mod Factors
pub mod Values
mod Costs
pub mod Copies
pub mod CertificateCosts
mod Parameters
mod OtherSites
