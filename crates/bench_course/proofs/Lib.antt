pub mod Taken
pub mod Ends
pub mod Parts
mod Sent
