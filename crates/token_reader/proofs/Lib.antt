pub mod Turns
pub mod Made
pub mod Shrink
pub mod Labels
