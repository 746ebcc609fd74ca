pub mod SessionsLaws
