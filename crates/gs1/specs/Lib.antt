pub mod Gs1
