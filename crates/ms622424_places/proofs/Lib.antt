pub mod Ring
pub mod Places
pub mod Does
pub mod Determined
