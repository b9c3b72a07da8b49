pub mod Clap
pub mod Forms
pub mod Words
pub mod sample
