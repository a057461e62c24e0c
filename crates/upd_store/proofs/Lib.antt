pub mod Common
mod VersionLemmas
pub mod OneLayout
pub mod Opening
pub mod TreeChains
pub mod TreeFound
pub mod TreeWalk
