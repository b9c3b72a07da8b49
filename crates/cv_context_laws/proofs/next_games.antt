pub mod Results
pub mod Terms
pub mod Games
pub mod Labels
pub mod Texts
