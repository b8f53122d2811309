pub mod Head
pub mod Frames
pub mod Split
