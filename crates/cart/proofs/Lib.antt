pub mod CartWordsLaws
