pub mod Valid
pub mod ValidLaws
