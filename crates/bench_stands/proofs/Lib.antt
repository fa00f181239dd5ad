pub mod Pairs
pub mod Updates
pub mod Enabling
pub mod Told
pub mod Least
pub mod Edges
