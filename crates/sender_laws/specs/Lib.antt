pub mod Run
pub mod Turned
pub mod Worlds
pub mod Ends
