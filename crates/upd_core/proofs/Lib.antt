pub mod StatusLaws
pub mod TargetLaws
pub mod WellFoundedLemmas
pub mod InPlaceLemmas
pub mod FirstLemmas
pub mod CountLemmas
pub mod ApartLemmas
pub mod FoundLemmas
pub mod YankLemmas
pub mod LiveLemmas
pub mod FlatLemmas
pub mod CountedLemmas
pub mod ActiveLemmas
pub mod Common
pub mod HomeLemmas
mod EnterLemmas
