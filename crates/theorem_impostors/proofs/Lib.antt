pub mod Law
pub mod ChipA
pub mod ChipB
pub mod ChipC
