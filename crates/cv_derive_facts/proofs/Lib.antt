mod Conditions
pub mod Continuing
pub mod Covering
pub mod Entries
mod Factors
mod Flat
mod Placing
mod SitesStanding
mod Sitings
pub mod Standings
