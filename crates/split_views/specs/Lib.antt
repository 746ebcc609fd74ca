pub mod SplitViews
pub mod Parts
