pub mod Closing
pub mod Numbers
pub mod Going
pub mod Marking
pub mod Texts
