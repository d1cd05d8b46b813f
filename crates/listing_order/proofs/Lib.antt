pub mod Accounts
pub mod Decided
pub mod Places
pub mod Sections
pub mod OneByOne
