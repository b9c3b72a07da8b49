pub mod Products
pub mod Shapes
pub mod ShapesInCode
