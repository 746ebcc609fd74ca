pub mod SplitOn
