pub mod Again
pub mod Invariant
