pub mod Time
pub mod Numbers
pub mod Judged
pub mod Clocks
