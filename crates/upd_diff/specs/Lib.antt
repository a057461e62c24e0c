pub mod CardDiffs
pub mod RowChanges
pub mod States
pub mod Touched
