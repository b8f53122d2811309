pub mod Sha256
pub mod Hmac
pub mod Keyed
pub mod Vectors
pub mod Laws
pub mod Window
