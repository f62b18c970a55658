pub mod First
pub mod Stages
