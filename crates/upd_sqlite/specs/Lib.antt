pub mod Rising
pub mod RisingStores
pub mod Stored
pub mod Keyed
pub mod Steps
