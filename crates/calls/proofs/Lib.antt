pub mod Stored
pub mod Count
pub mod Lent
pub mod Turn
pub mod Ends
pub mod Rules
pub mod ByEntry
