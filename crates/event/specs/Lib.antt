pub mod EventWords
pub mod Event
pub mod Kind
