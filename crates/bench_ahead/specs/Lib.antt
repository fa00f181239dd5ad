pub mod Needed
pub mod Behind
