pub mod Samples
pub mod Course
pub mod Taking
pub mod Ending
pub mod Laws
