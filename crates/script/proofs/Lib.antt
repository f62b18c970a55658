pub mod Padded
pub mod Joined
