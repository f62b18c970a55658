pub mod Determined
pub mod Kept
