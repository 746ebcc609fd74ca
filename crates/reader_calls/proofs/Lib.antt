pub mod Examples
pub mod ReaderCallsLaws
