pub mod SoundTests
pub mod Grown
pub mod Whole
pub mod RowKeys
pub mod TextTests
pub mod RunForms
pub mod StateTests
pub mod Findings
