pub mod Entries
pub mod Faults
pub mod Correspondences
pub mod Listed
pub mod Gathering
pub mod Hearing
pub mod Says
pub mod Declaring
