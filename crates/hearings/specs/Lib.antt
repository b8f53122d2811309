pub mod Saids
pub mod Hearings
pub mod Sents
