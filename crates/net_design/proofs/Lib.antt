pub mod Numbered
pub mod Ways
pub mod Finding
pub mod Rounds
pub mod Showing
pub mod Dependence
pub mod Pairs
