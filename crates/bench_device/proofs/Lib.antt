pub mod Engines
pub mod Rows
pub mod SameCones
pub mod Sent
