pub mod Logs
pub mod Climbing
pub mod Examples
