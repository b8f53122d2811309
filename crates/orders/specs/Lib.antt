pub mod Hex
pub mod Orders
