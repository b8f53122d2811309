pub mod Memory
pub mod Reading
pub mod Whole
pub mod Setup
pub mod Eight
pub mod Again
