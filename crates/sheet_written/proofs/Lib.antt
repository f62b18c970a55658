pub mod Size
pub mod Values
pub mod Round
pub mod Ends
