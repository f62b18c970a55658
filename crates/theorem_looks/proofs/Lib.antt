pub mod Looks
pub mod Story
pub mod Load
pub mod AgreesA
pub mod AgreesB
pub mod AgreesC
pub mod Agrees
