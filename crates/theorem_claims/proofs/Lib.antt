pub mod Determined
pub mod CallsA
pub mod CallsB
pub mod CallsC
pub mod Counts
pub mod CallsSheet
pub mod Kept
pub mod Impostors
