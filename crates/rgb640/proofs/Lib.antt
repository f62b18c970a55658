pub mod Access
pub mod Effects
pub mod Entry
pub mod InRange
pub mod Index
pub mod Keeps
pub mod Order
pub mod Look
