pub mod Parents
pub mod Moves
pub mod Entries
pub mod Told
pub mod Tables
pub mod Commits
pub mod Advancing
