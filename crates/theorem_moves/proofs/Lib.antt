pub mod MovesA
pub mod MovesB
pub mod MovesC
