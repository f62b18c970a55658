pub mod Starts
pub mod Choosy
