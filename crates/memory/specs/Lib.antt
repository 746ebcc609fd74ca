pub mod Memory
pub mod Walked
