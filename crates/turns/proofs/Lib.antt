pub mod Sighted
