pub mod ClockLaws
pub mod EventLaws
pub mod EventWordsLaws
pub mod Examples
pub mod RefusalLaws
