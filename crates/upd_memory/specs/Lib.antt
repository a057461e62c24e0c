pub mod ActiveRows
pub mod RowsByKey
pub mod Lists
pub mod Mirrored
pub mod Overlaid
pub mod MovedIdents
pub mod Walk
