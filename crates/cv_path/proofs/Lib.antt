pub mod Binders
pub mod Bounds
pub mod Going
pub mod Products
