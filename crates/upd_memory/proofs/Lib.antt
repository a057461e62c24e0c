mod NameOrderLemmas
mod KeyedLemmas
mod MapRowsLemmas
mod StatusRowLemmas
mod AskedLemmas
mod MirrorLemmas
mod ListLemmas
mod LoadLemmas
mod ActiveRowsLemmas
pub mod Common
mod MovedIdentLemmas
mod WalkLemmas
mod CardSetLemmas
