pub mod TableLemmas
pub mod StoreLemmas
pub mod PartLemmas
pub mod KeepingLemmas
pub mod SortLemmas
mod RowLemmas
mod PlaceLemmas
mod AssembleLemmas
pub mod HolderLemmas
pub mod KeyLemmas
pub mod ActiveLemmas
mod ByCardLemmas
mod RestLemmas
mod CardLemmas
mod PartRowLemmas
pub mod AskedLemmas
pub mod Common
pub mod MovableLemmas
pub mod NamedLemmas
pub mod MoveLemmas
pub mod PieceLemmas
pub mod RangeLemmas
pub mod ShiftLemmas
pub mod PlanLemmas
