pub mod Session
pub mod Turns
