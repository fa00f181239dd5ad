pub mod Unrolled
pub mod Tables
pub mod Loops
pub mod Widths
pub mod Walks
