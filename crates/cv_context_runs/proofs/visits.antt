pub mod Keys
pub mod Calls
pub mod Visits
pub mod Nodes
pub mod FineTerms
pub mod FineGames
