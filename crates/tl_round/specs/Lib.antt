pub mod Relined
pub mod Examples
