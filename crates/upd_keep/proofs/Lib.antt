pub mod Common
mod VersionRows
mod Copies
mod SameLength
mod Reports
mod ReplayLemmas
