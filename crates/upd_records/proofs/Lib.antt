pub mod ByKeyLemmas
pub mod CountLemmas
pub mod EffectLemmas
pub mod EqualLemmas
pub mod StatusLemmas
