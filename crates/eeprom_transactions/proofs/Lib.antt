pub mod ByteLaws
pub mod TransactionLaws
pub mod WholeLaws
