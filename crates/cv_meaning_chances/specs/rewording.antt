pub mod Rewording
