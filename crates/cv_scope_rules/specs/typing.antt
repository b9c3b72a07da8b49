pub mod Parts
pub mod Refusals
pub mod Signature
pub mod Typing
pub mod Wants
pub mod Worked
