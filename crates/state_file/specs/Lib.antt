pub mod StateFile
