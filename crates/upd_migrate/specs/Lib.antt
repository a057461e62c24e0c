pub mod Older
pub mod Migrated
