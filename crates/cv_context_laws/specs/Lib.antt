pub mod shape
pub mod next_games
pub mod calls
pub mod types
