pub mod Numbers
pub mod Going
pub mod Places
