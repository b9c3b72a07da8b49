pub mod Backward
pub mod Contexts
pub mod Current
pub mod Stacks
pub mod Sites
