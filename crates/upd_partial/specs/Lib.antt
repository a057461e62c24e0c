pub mod Needless
pub mod Needed
