pub mod Examples
pub mod SessionLaws
pub mod TurnsLaws
