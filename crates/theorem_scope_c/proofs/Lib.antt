pub mod Index
pub mod Data
pub mod Scope
pub mod Determined
