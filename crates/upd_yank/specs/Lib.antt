pub mod Cascade
pub mod Right
pub mod Affected
pub mod Enough
pub mod StatusChanges
pub mod Renewed
