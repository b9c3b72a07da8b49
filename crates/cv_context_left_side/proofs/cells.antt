pub mod Flat
pub mod Found
pub mod Turned
pub mod Sizes
pub mod Keys
pub mod Unlisted
pub mod Chances
