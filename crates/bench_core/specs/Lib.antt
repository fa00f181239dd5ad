pub mod Bench
pub mod Picking
pub mod Committing
pub mod Laws
