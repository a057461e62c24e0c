pub mod CardRefLemmas
mod NameKeyLemmas
pub mod SplitLemmas
pub mod EachLemmas
pub mod OrderLemmas
pub mod OutcomeLemmas
