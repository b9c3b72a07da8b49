pub mod Products
pub mod News
pub mod Shapes
