pub mod Atoms
pub mod Items
pub mod Standing
pub mod Printable
pub mod Examples
