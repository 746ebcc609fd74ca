pub mod Encode
pub mod Decode
pub mod Steps
pub mod ValidLaws
pub mod StepsLaws
pub mod DecodeLaws
