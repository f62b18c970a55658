pub mod Lines
pub mod Loads
