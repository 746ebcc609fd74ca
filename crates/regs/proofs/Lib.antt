pub mod Words
pub mod RegsLaws
pub mod RegsWordsLaws
