pub mod Cuts
pub mod Words
pub mod Numbers
pub mod Running
