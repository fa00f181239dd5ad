pub mod Gathering
pub mod Inferring
pub mod Judging
pub mod Raise
pub mod Least
pub mod FoundExamples
