pub mod Among
pub mod Heard
