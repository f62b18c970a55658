pub mod Bytes
pub mod Steps
pub mod Lines
pub mod Resets
