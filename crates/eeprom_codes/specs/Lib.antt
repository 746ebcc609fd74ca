pub mod Codes
pub mod CodesLaws
pub mod EepromWords
pub mod EepromWordsLaws
pub mod KnownRun
pub mod Examples
pub mod ExamplesLaws
