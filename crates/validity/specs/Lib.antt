pub mod Valid
pub mod Good
pub mod ValidLaws
pub mod GoodLaws
pub mod KeptLaws
