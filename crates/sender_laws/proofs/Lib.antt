pub mod Cases
pub mod Said
pub mod Alone
pub mod Turned
pub mod Worlds
pub mod Ends
pub mod Back
