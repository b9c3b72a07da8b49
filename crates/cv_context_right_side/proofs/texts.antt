mod Typed
pub mod Names
pub mod Roles
pub mod Allowed
mod Stands
mod Keys
pub mod Texts
mod Worked
