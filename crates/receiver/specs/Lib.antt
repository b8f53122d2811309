pub mod State
pub mod Calls
pub mod Heard
pub mod Worlds
