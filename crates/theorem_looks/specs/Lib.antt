pub mod Looks
pub mod Agrees
