pub mod PlayerDecode
