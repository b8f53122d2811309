pub mod Term
pub mod Receiver
pub mod Run
pub mod Promise
pub mod Wrong
pub mod Witness
pub mod Cases
