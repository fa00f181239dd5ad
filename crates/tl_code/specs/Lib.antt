pub mod Drafts
pub mod Compiled
pub mod Slots
pub mod Codes
pub mod Laws
