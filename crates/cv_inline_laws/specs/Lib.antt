pub mod extents
pub mod runs
pub mod worked
pub mod draws
