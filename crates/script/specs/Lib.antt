pub mod Faults
pub mod Script
