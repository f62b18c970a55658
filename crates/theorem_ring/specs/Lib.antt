pub mod OldQueue
pub mod Ring
