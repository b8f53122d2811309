pub mod Places
pub mod Scened
