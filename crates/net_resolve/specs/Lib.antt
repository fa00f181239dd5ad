pub mod Examples
pub mod Joint
pub mod Pass
pub mod Resets
pub mod Resolved
pub mod Sources
pub mod Walk
