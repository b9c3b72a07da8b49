pub mod Accepted
pub mod Faults
pub mod Numbers
pub mod Places
pub mod Works
