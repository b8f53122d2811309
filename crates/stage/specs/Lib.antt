pub mod Saids
pub mod Scenes
