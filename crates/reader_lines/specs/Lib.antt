pub mod ReaderLines
