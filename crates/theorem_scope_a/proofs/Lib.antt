pub mod Good
pub mod Pixel
pub mod Rows
pub mod Scope
pub mod Determined
