pub mod Unrolled
pub mod Gives
pub mod TypesWritten
pub mod ExprsWritten
pub mod RowsWritten
pub mod BlocksWritten
pub mod Known
pub mod Texts
