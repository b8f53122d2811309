pub mod Text
pub mod Stops
pub mod Commands
pub mod Reading
