pub mod Fates
pub mod Verdicts
pub mod Laws
