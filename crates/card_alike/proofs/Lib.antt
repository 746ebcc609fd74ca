pub mod AlikeLaws
pub mod ModulesLaws
pub mod RunLaws
