pub mod Rows
pub mod Core
pub mod OwnNames
pub mod Examples
