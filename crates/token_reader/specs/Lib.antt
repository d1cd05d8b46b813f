pub mod Gives
pub mod Levels
