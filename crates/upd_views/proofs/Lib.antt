mod OverviewWords
mod BlameLemmas
mod EscapeLemmas
pub mod ExplainLemmas
