pub mod Byte
pub mod Transaction
pub mod SheetRun
