pub mod Gives
pub mod Tables
pub mod TermRows
