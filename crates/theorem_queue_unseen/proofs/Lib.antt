pub mod Settled
pub mod Shown
pub mod Stored
pub mod ShownBytes
pub mod Short
pub mod Unseen
pub mod Made
pub mod Accepting
