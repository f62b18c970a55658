pub mod Told
pub mod StoreB
pub mod ReadBackB
pub mod Held
pub mod Impostors
pub mod ReadBackC
