pub mod Need
pub mod Steps
pub mod Told
