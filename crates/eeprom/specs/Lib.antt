pub mod Codes
pub mod State
pub mod Lines
pub mod Eeprom
pub mod Run
pub mod Typed
