pub mod CharacterLaws
pub mod Examples
pub mod Gs1Laws
