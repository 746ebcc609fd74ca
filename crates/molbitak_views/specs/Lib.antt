pub mod Tables
pub mod Views
