pub mod correspondences
pub mod routes
pub mod visits
