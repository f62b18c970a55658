pub mod Hd153108
pub mod Captions
