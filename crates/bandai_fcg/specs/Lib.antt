pub mod ReaderWords
pub mod Reader
pub mod BoardSet
pub mod Board
pub mod Typed
