pub mod Compared
pub mod Sorted
pub mod Back
