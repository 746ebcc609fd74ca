pub mod CartWords
pub mod Cart
