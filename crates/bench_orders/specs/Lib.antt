pub mod FirstRuns
pub mod EveryOrder
pub mod Turns
