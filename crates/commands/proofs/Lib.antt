pub mod Arms
pub mod Search
