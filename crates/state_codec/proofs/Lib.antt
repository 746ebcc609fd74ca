pub mod Arrays
pub mod Built
pub mod Decoded
