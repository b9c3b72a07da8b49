pub mod Uses
pub mod Calls
