pub mod RowReading
pub mod AfterReference
pub mod RowSteps
pub mod RowReads
pub mod Fits
pub mod RowFits
pub mod RowLaws
