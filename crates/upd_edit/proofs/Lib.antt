pub mod Common
pub mod ToldLemmas
pub mod StayingLemmas
mod YankLemmas
mod ConditionLemmas
