pub mod Filled
pub mod Width
pub mod Rules
