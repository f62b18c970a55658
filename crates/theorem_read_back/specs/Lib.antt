pub mod Told
pub mod ReadBackB
pub mod ReadBackC
pub mod WrongB
