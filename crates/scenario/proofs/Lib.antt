pub mod Heard
pub mod Lines
pub mod First
pub mod Sound
