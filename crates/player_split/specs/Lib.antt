pub mod PlayerSplit
