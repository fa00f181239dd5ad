pub mod Conflicts
pub mod Examples
