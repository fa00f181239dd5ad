pub mod Places
pub mod Nesting
pub mod Widths
pub mod Laws
