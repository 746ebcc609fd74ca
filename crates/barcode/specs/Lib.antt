pub mod Barcode
