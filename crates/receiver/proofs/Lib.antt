pub mod Judged
pub mod Called
pub mod Stood
