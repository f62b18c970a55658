pub mod Turned
pub mod OldQueue
pub mod OldCalls
pub mod Ring
