pub mod Bitwise
pub mod Arrays
pub mod Steps
pub mod Windows
pub mod Buffers
pub mod Keys
