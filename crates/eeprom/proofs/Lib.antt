pub mod EepromLaws
pub mod RunLaws
pub mod StepLaws
