pub mod Chains
pub mod Examples
pub mod Report
pub mod Runs
pub mod Steps
