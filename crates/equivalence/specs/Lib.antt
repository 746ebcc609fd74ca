pub mod BoardMachine
pub mod BoardLaws
pub mod WordCalls
pub mod WordCallsLaws
pub mod Theorem
pub mod WorkedExamples
pub mod Instance
pub mod RuleInstance
