pub mod Heres
pub mod Standings
pub mod Symbols
pub mod Blocks
pub mod Parts
pub mod Targets
pub mod Contexts
