pub mod Ranks
pub mod Parses
pub mod Loops
