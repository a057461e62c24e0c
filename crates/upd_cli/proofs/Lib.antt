pub mod LeavingLemmas
pub mod DoneLemmas
