pub mod Good
pub mod Asked
pub mod Select
pub mod Shown
pub mod Scope
pub mod Cases
pub mod Determined
