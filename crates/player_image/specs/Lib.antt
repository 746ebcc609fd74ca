pub mod PlayerImage
