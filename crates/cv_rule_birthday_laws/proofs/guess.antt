mod Falsified
mod Values
mod Reworded
mod Unread
mod Twins
mod Firsts
mod Hits
mod Leads
mod Counted
mod Keeping
pub mod Sound
