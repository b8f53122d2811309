pub mod Lines
pub mod Deeds
