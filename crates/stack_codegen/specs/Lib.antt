pub mod Codable
pub mod Operations
pub mod Listed
pub mod Names
pub mod Calls
pub mod Blocks
pub mod Programs
pub mod Writes
