pub mod Examples
pub mod Layout
pub mod LayoutLaws
