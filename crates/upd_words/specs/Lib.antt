pub mod Operands
pub mod Words
