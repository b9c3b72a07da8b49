pub mod Variables
pub mod Keys
pub mod Facts
pub mod Findings
