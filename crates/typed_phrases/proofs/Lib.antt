pub mod AllParts
pub mod Applying
pub mod Defaults
pub mod InLists
pub mod Readings
pub mod Together
pub mod WidthSettings
