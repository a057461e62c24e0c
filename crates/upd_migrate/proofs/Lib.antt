pub mod Common
pub mod Versions
pub mod Completed
pub mod Loaded
pub mod RowChanges
pub mod Filled
pub mod Migrates
pub mod PassedFaults
