pub mod WithRule
pub mod RuleLaws
