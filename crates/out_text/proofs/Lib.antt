pub mod Cones
pub mod Outlines
