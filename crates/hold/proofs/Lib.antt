pub mod Holds
pub mod Texts
