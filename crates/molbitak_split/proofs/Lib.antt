pub mod SplitOnLaws
