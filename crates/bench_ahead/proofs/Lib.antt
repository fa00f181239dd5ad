pub mod Behind
pub mod Edges
pub mod Counting
