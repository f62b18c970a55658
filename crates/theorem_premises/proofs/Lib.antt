pub mod Fill
pub mod Premises
