pub mod PageSums
pub mod Copying
pub mod Examining
pub mod Replaying
pub mod Situations
