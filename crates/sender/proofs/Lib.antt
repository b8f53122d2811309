pub mod Ticks
pub mod Held
