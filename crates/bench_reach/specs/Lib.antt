pub mod Bounds
pub mod Naming
pub mod Standing
