pub mod Scenes
pub mod States
pub mod Plays
pub mod Laws
