pub mod Grammar
pub mod Items
pub mod LineFields
pub mod Reading
pub mod Order
pub mod Refusals
