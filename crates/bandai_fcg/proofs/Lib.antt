mod ChipWrites
pub mod BoardLaws
pub mod ModuleReadExamples
pub mod ModuleReadLaws
pub mod ReaderWordsLaws
pub mod TypedLaws
