pub mod ListLemmas
pub mod TextLineLemmas
pub mod ReadDeckLemmas
pub mod CauseLemmas
pub mod SameLemmas
pub mod LeftLemmas
pub mod TextLemmas
pub mod CheckedLemmas
pub mod Common
mod CountLemmas
