pub mod CallCase
pub mod After
pub mod TermsIn
pub mod Serve
pub mod Runs
