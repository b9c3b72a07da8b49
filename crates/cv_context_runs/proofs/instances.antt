pub mod Terms
pub mod Numbers
pub mod Sites
pub mod Outside
pub mod Plain
pub mod Arguments
pub mod Own
pub mod Statements
