pub mod Sound
pub mod Relined
pub mod Again
pub mod Examples
