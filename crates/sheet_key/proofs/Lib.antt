pub mod Leads
pub mod Naming
pub mod Along
