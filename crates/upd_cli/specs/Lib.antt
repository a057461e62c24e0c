pub mod Opened
pub mod Works
pub mod Replayed
pub mod Commands
