pub mod Rows
pub mod Changes
pub mod Fits
