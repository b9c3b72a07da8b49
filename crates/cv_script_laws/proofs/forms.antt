pub mod Agreement
pub mod Deciding
pub mod Fitting
pub mod Made
mod NodeRows
pub mod Steps
pub mod Texts
