pub mod Hex
pub mod Chain
pub mod Lines
pub mod Outcomes
