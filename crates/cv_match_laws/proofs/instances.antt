pub mod Uses
pub mod Calls
pub mod Given
pub mod Coins
