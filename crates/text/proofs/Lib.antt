pub mod Turns
pub mod WordsLaws
