pub mod Plays
pub mod Casts
pub mod Tallies
