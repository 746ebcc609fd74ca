pub mod Apart
pub mod WordsLaws
