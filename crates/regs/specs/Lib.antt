pub mod RegsWords
pub mod RegsSet
pub mod Regs
